use Rattle.std.proofs.Common.{refl, sym, subst, Err}
use Rattle.std.specs.Prelude.{IfSome, chars}
use Rattle.std.proofs.lemmas.Result.{err_from_is_err_and}
use Rattle.syn_reader.specs.declared.syntax.ReadError.{ReadError}
use Rattle.syn_reader.specs.Follows.{file_counts, IsSyntaxOf}
use Rattle.syn_reader.specs.SoundReading.{IsSoundReading}
use Rattle.syn_reader.proofs.SyntaxRuns.{error_counts, run_fails, run_goes_well}
use Rattle.syn_reader.proofs.SoundRuns.{nothing_sound}
use Rattle.syn_reader.proofs.syntax_of.read_syntax.Goals as goal

pub read_first-requires : goal.read_first-requires
read_first-requires g c = record { sound = subst IsSoundReading (sym c.in_ok-nothing_read.ensures) nothing_sound }

pub returns-in_err-read_first-clause-counts : goal.returns-in_err-read_first-clause-counts
returns-in_err-read_first-clause-counts g c =
    let p = err_from_is_err_and c.from_residual-in_err-read_first.result c.from_residual-in_err-read_first.ensures.1 in
    rw (p.1, p.2)
    (error_counts c.in_err-read_first.field-0.0
    (file_counts (g.F.Files.faults c.args.files.now) (g.F.Files.misses c.args.files.now) (g.F.Files.longs c.args.files.now))
    (file_counts (g.F.Files.faults c.read_first.new.files) (g.F.Files.misses c.read_first.new.files)
    (g.F.Files.longs c.read_first.new.files)) c.in_err-read_first.ensures.counts)

pub returns-in_err-read_first-clause-answer : goal.returns-in_err-read_first-clause-answer
returns-in_err-read_first-clause-answer g c =
    let p = err_from_is_err_and c.from_residual-in_err-read_first.result c.from_residual-in_err-read_first.ensures.1 in
    let told = g.F.Files.told c.args.files.now in
    subst (λ r. IfSome told (λ map. IsSyntaxOf map c.args.name.now c.args.options.now r)) (sym p.1)
    (subst (λ (e : ReadError). IfSome told (λ map. IsSyntaxOf map c.args.name.now c.args.options.now (Err e))) (sym p.2)
    (run_fails told c.args.name.now (chars c.args.name.now) c.args.options.now c.in_ok-nothing_read.field-0
    c.read_first.new.progress c.in_err-read_first.field-0.0 refl c.in_ok-nothing_read.ensures
    c.in_err-read_first.ensures.answer))

pub returns-clause-answer : goal.returns-clause-answer
returns-clause-answer g c =
    run_goes_well (g.F.Files.told c.args.files.now) c.args.name.now (chars c.args.name.now) c.args.options.now
    c.in_ok-nothing_read.field-0 c.read_first.new.progress c.in_ok-read_first.field-0 c.in_ok-syntax_from.field-0
    refl c.in_ok-nothing_read.ensures c.in_ok-syntax_from.ensures c.in_ok-read_first.ensures.answer
