use Rattle.std.proofs.Common.{rules, ◌≡◌, suc, [], ◌∷◌, ◌++◌, arith, sym, ap, subst, ◌∙◌, append_assoc, Ok, Err}
use Rattle.std.proofs.lemmas.Result.{err_from_is_err_and}
use Rattle.std.specs.Vec.Iter.{into_iter_items, into_iter_len}
use Rattle.syn_words.specs.FileCommands.{commands_of}
use Rattle.syn_reader.specs.declared.files.Asked.{Asked}
use Rattle.syn_reader.specs.declared.syntax.ReadError.TheVariants.{FileFault}
use Rattle.syn_reader.specs.Follows.{file_counts, Reads, IsFaultOf}
use Rattle.syn_reader.specs.SyntaxOf as spec
use Rattle.syn_reader.specs.SyntaxOf.{Fetching}
use Rattle.syn_reader.proofs.Fetches.{asked_reads, whole_reads, failed_reads, does_counts}
use Rattle.syn_reader.proofs.CommandRuns.{more_reads, ends_in_reads, all_reads, all_ran, one_fewer, plain_reads}
use Rattle.syn_reader.proofs.files.+files.Goals as goal

pub ask-returns : goal.ask-returns
ask-returns g t c = record {
  kept = search rules;
  counts = search rules;
  answer =
      asked_reads (g.F.Files.told c.args.files.now) c.args.how.room c.args.how.options.now c.args.asker.file.now c.args.asker.line
      c.args.name.now c.args.progress.now c.read_file.new.progress c.read_file.result (omega arith) c.read_file.ensures.answer;
  sound = search rules;
}

-- a command's words say what it asks for
pub carry_out-returns-in_ok-path-in-Runtime : goal.carry_out-returns-in_ok-path-in-Runtime
carry_out-returns-in_ok-path-in-Runtime g t c = record {
  kept = search rules;
  counts = search rules;
  answer =
      let e : c.as_str.result.now ≡ spec.path_of c.args.how.options.now c.in-Runtime.name =
      c.as_str.ensures.value ∙ c.in_ok-path-in-Runtime.ensures ∙ ap (spec.path_of c.args.how.options.now) c.as_slice.ensures in
      subst (λ w. Reads (g.F.Files.told c.args.files.now) (suc c.args.progress.now.includes)
      (λ fetch. spec.command_done (spec.asked_within c.args.how.room fetch c.args.how.options.now) c.args.how.options.now c.args.file.now c.args.command.line c.args.progress.now w) c.runtime.new.progress c.runtime.result)
      (sym c.in-Runtime.is)
      (subst (λ path. Reads (g.F.Files.told c.args.files.now) (suc c.args.progress.now.includes)
      (λ fetch. spec.runtime_command (spec.asked_within c.args.how.room fetch c.args.how.options.now) c.args.file.now c.args.command.line c.args.progress.now path) c.runtime.new.progress c.runtime.result)
      e c.runtime.ensures.answer);
  sound = search rules;
}

pub carry_out-returns-in_ok-path-in-Include : goal.carry_out-returns-in_ok-path-in-Include
carry_out-returns-in_ok-path-in-Include g t c = record {
  kept = search rules;
  counts = search rules;
  answer =
      let e : c.as_str-in-Include.result.now ≡ spec.path_of c.args.how.options.now c.in-Include.name =
      c.as_str-in-Include.ensures.value ∙ c.in_ok-path-in-Include.ensures ∙ ap (spec.path_of c.args.how.options.now) c.as_slice-in-Include.ensures in
      subst (λ w. Reads (g.F.Files.told c.args.files.now) (suc c.args.progress.now.includes)
      (λ fetch. spec.command_done (spec.asked_within c.args.how.room fetch c.args.how.options.now) c.args.how.options.now c.args.file.now c.args.command.line c.args.progress.now w) c.include.new.progress c.include.result)
      (sym c.in-Include.is)
      (subst (λ path. Reads (g.F.Files.told c.args.files.now) (suc c.args.progress.now.includes)
      (λ fetch. spec.include_command (spec.asked_within c.args.how.room fetch c.args.how.options.now) c.args.file.now c.args.command.line c.args.progress.now c.in-Include.cluster path) c.include.new.progress c.include.result)
      e c.include.ensures.answer);
  sound = search rules;
}

pub carry_out-returns-in_default : goal.carry_out-returns-in_default
carry_out-returns-in_default g t c = record {
  kept = search rules;
  counts = does_counts c.do_effect.result (file_counts (g.F.Files.faults c.args.files.now) (g.F.Files.misses c.args.files.now) (g.F.Files.longs c.args.files.now)) c.do_effect.ensures.causes;
  answer =
      plain_reads (g.F.Files.told c.args.files.now) (λ fetch. spec.asked_within c.args.how.room fetch c.args.how.options.now) c.args.how.options.now c.args.file.now c.args.command.line c.args.command.what c.args.progress.now c.do_effect.new.progress c.do_effect.result
      c.in_default.not-Runtime c.in_default.not-Include c.do_effect.ensures.answer c.do_effect.ensures.causes c.do_effect.ensures.includes;
  sound = search rules;
}

pub carry_out_all-loop-command-preserved : goal.carry_out_all-loop-command-preserved
carry_out_all-loop-command-preserved g t c =
    let told = g.F.Files.told c.args.files.now in
    let step = λ (fetch : Fetching). spec.with_command (spec.asked_within c.args.how.room fetch c.args.how.options.now) c.args.how.options.now c.args.file.now in
    let steps = c.in-Some.ensures.steps in
    let next : Reads told (suc c.loop-command.progress.includes) (λ fetch. step fetch c.loop-command.progress c.in-Some.command) c.carry_out.new.progress (Ok (tt {0})) =
    subst (λ files. Reads files (suc c.loop-command.progress.includes) (λ fetch. step fetch c.loop-command.progress c.in-Some.command) c.carry_out.new.progress (Ok (tt {0}))) c.loop-command.invariant.told c.in_ok-carry_out.ensures.answer in
    record {
      told = c.in_ok-carry_out.ensures.kept ∙ c.loop-command.invariant.told;
      faults = c.in_ok-carry_out.ensures.counts.faults ∙ c.loop-command.invariant.faults;
      misses = c.in_ok-carry_out.ensures.counts.misses ∙ c.loop-command.invariant.misses;
      longs = c.in_ok-carry_out.ensures.counts.longs ∙ c.loop-command.invariant.longs;
      answer = more_reads told (suc c.args.progress.now.includes) step c.args.progress.now c.loop-command.progress c.carry_out.new.progress c.loop-command.yielded c.in-Some.command (tt {0}) (Ok (tt {0})) c.loop-command.invariant.answer next;
      to_come = append_assoc c.loop-command.yielded (c.in-Some.command ∷ []) (into_iter_items c.next.new.self) ∙ ap (λ l. c.loop-command.yielded ++ l) (sym steps.0) ∙ c.loop-command.invariant.to_come;
      fault = c.loop-command.invariant.fault;
      sound = c.in_ok-carry_out.ensures.sound;
      count = one_fewer (into_iter_items c.loop-command.command-iterator) (into_iter_items c.next.new.self) c.in-Some.command (into_iter_len c.loop-command.command-iterator) (into_iter_len c.next.new.self) steps.0 steps.1 c.loop-command.invariant.count;
    }

pub carry_out_all-returns-in_err-carry_out : goal.carry_out_all-returns-in_err-carry_out
carry_out_all-returns-in_err-carry_out g t c = record {
  kept = search rules;
  counts = search rules;
  answer =
      let told = g.F.Files.told c.args.files.now in
      let step = λ (fetch : Fetching). spec.with_command (spec.asked_within c.args.how.room fetch c.args.how.options.now) c.args.how.options.now c.args.file.now in
      let p = err_from_is_err_and c.from_residual.result c.from_residual.ensures.1 in
      rw (p.1, p.2)
      (ends_in_reads told (suc c.args.progress.now.includes) step c.args.progress.now c.loop-command.progress c.carry_out.new.progress c.carry_out.new.progress c.loop-command.yielded (into_iter_items c.next.new.self) c.args.found.list c.in-Some.command (tt {0}) _ (spec.unless_fault c.args.file.now c.args.found.fault)
      (ap (λ l. c.loop-command.yielded ++ l) (sym c.in-Some.ensures.steps.0) ∙ c.loop-command.invariant.to_come)
      c.loop-command.invariant.answer
      (subst (λ files. Reads {A = Unit {0}} files (suc c.loop-command.progress.includes) (λ fetch. step fetch c.loop-command.progress c.in-Some.command) c.carry_out.new.progress (Err c.in_err-carry_out.field-0.0)) c.loop-command.invariant.told c.in_err-carry_out.ensures.answer));
  sound = search rules;
}

pub carry_out_all-returns : goal.carry_out_all-returns
carry_out_all-returns g t c = record {
  kept = search rules;
  counts = search rules;
  answer =
      all_reads (g.F.Files.told c.args.files.now) (suc c.args.progress.now.includes) (λ fetch. spec.with_command (spec.asked_within c.args.how.room fetch c.args.how.options.now) c.args.how.options.now c.args.file.now) c.args.progress.now
      c.args.file.now c.args.found.fault c.loop-command.progress c.loop-command.yielded c.args.found.list (tt {0}) c.fault_of.result
      (all_ran c.loop-command.yielded (into_iter_items c.loop-command.command-iterator) c.args.found.list (into_iter_len c.loop-command.command-iterator) c.loop-command.invariant.to_come c.loop-command.invariant.count c.in-None.ensures.steps.0)
      c.loop-command.invariant.answer (subst (λ fault. IsFaultOf c.args.file.now fault c.fault_of.result) c.loop-command.invariant.fault c.fault_of.ensures);
  sound = search rules;
}

pub read_file-returns-in_ok-found-in-Whole : goal.read_file-returns-in_ok-found-in-Whole
read_file-returns-in_ok-found-in-Whole g t c = record {
  kept = search rules;
  counts = search rules;
  answer =
      let same : c.in_ok-found-in-Whole.found ≡ commands_of c.in-Whole.bytes = c.in_ok-found-in-Whole.ensures ∙ ap commands_of c.as_slice.ensures in
      whole_reads (g.F.Files.told c.args.files.now) (g.F.Files.told c.fetch.new.self) (λ fetch. spec.asked_within c.args.how.room fetch c.args.how.options.now) c.args.how.options.now c.args.asker.file.now c.args.asker.line c.args.name.now
      c.as_slice-in-Whole.result.now c.in-Whole.bytes c.in_ok-found-in-Whole.found c.args.progress.now c.carry_out_all.new.progress c.carry_out_all.result
      c.in-Whole.ensures.kept (c.as_slice-in-Whole.ensures ∙ ap (λ (asked : Asked). asked.name) c.in_ok-asked.ensures) same c.in-Whole.ensures.answer c.carry_out_all.ensures.answer;
  sound = search rules;
}

pub read_file-returns-in-Failed : goal.read_file-returns-in-Failed
read_file-returns-in-Failed g t c = record {
  kept = search rules;
  counts = search rules;
  answer =
      failed_reads (g.F.Files.told c.args.files.now) (λ fetch. spec.asked_within c.args.how.room fetch c.args.how.options.now) c.args.how.options.now
      c.args.asker.file.now c.args.asker.line c.args.name.now c.args.progress.now c.args.progress.now c.file_fault.result
      (c.file_fault.ensures ∙ ap (λ (asked : Asked). FileFault asked.file asked.line asked.name) c.in_ok-asked.ensures);
  sound = search rules;
}
