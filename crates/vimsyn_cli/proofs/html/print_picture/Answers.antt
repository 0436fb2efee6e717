use Rattle.std.proofs.Common.{◌≡◌, subst, sym}
use Rattle.std.specs.Prelude.{IfOk}
use Rattle.vimsyn_cli.specs.declared.picture.Picture.{Picture}
use Rattle.vimsyn_cli.specs.Printing.{picture_page}
use Rattle.vimsyn_cli.proofs.html.print_picture.Goals as goal

pub returns-in-Shown : goal.returns-in-Shown
returns-in-Shown c =
    let P : Picture → Type 0 = λ p. IfOk c.page_bytes-bytes.result (λ bytes. bytes ≡ picture_page c.args.words.now p) in
    subst P (sym c.in-Shown.is) c.page_bytes-bytes.ensures

pub returns-in-Concealed : goal.returns-in-Concealed
returns-in-Concealed c =
    let P : Picture → Type 0 = λ p. IfOk c.seen_page.result (λ bytes. bytes ≡ picture_page c.args.words.now p) in
    subst P (sym c.in-Concealed.is) c.seen_page.ensures
