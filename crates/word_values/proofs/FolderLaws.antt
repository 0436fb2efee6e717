-- The folder of syntax files.
use Rattle.std.proofs.Common.{◌≡◌, refl}
use Rattle.std.specs.Prelude.{codes}
use Rattle.std.specs.Str.{chars}

pub syntax_folder : chars (codes "syntax/") ≡ codes "syntax/"
unfolding chars
syntax_folder = refl
