use Rattle.std.proofs.Common.{◌≡◌, drop}
use Rattle.syn_base.specs.Outside.{file_named}
use Rattle.syn_base.proofs.in_memory.files.find_file.Given as goal

-- the file is looked for among the files to come
abbrev pub invariant-loop-file : goal.invariant-loop-file
invariant-loop-file l = file_named l.files l.name ≡ file_named (drop l.file-index l.files) l.name
