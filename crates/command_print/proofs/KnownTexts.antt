-- Texts as they are printed.
use Rattle.std.proofs.Common.{◌≡◌, ◌++◌, refl}
use Rattle.std.specs.Prelude.{codes, decimal}
use Rattle.command_print.specs.CommandText.{refusal_text}

-- a command's number is printed as it is, a script line from 1
refusal : refusal_text 1 0 (codes "no line 9")
    ≡ codes "@" ++ decimal 1 ++ codes " ? " ++ decimal 1 ++ codes " " ++ codes "no line 9" ++ codes "\n"
refusal = refl
