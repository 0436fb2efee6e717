-- The pieces of a spelled item, read back one by one.
use Rattle.std.proofs.Common.{◌≡◌, ℕ, Bool, true, false, List, [], ◌∷◌, ◌++◌, refl, ap, sym, ◌∙◌, append_assoc}
use Rattle.std.specs.Prelude.{Option, Some, None, Ok, nat_eq, ◌&&◌, ◌||◌}
use Rattle.std.specs.List.{list_all}
use Rattle.std.proofs.lemmas.List.{append-nil}
use Rattle.word_reader.specs.Delimited.{delimited_after, first_scan, scan_next}
use Rattle.word_reader.specs.Offsets.{no_adjusts, offsets}
use Rattle.syn_words.specs.declared.what.Flag.{Flag}
use Rattle.syn_words.specs.declared.what.Flag.TheVariants as flag
use Rattle.syn_words.specs.declared.what.ItemCommand.{ItemCommand}
use Rattle.syn_words.specs.declared.what.Piece.{Piece}
use Rattle.syn_words.specs.declared.what.Piece.TheVariants.{Has, Quote}
use Rattle.syn_words.specs.declared.what.Quoted.{Quoted}
use Rattle.syn_words.specs.declared.what.Role.{Role}
use Rattle.syn_words.specs.declared.pieces.Seen.{Seen}
use Rattle.syn_words.specs.Answers.{Read, ◌>>=◌}
use Rattle.syn_words.specs.Pieces.{piece_at, quote_as}
use Rattle.syn_words.specs.Quoted.{quoted, quoted_from, with_offsets}
use Rattle.syn_words.specs.Spelled.{IsPlainQuote, flag_text, is_plain_character, plain_quote, quoted_text}
use Rattle.syn_words.proofs.WordLaws.{and_left, and_right, not_true}
use Rattle.syn_words.proofs.SpelledWords.{behind, or_left, or_right}

-- Options without a value.

pub flag_read : (kind : ItemCommand) (seen : Seen) (f : Flag) (tail : Option (List ℕ))
    → piece_at kind seen (flag_text f ++ behind tail) ≡ Ok (Has f, behind tail)
flag_read kind seen flag.Contained None = refl
flag_read kind seen flag.Contained (Some more) = refl
flag_read kind seen flag.Oneline None = refl
flag_read kind seen flag.Oneline (Some more) = refl
flag_read kind seen flag.Keepend None = refl
flag_read kind seen flag.Keepend (Some more) = refl
flag_read kind seen flag.Extend None = refl
flag_read kind seen flag.Extend (Some more) = refl
flag_read kind seen flag.Excludenl None = refl
flag_read kind seen flag.Excludenl (Some more) = refl
flag_read kind seen flag.Transparent None = refl
flag_read kind seen flag.Transparent (Some more) = refl
flag_read kind seen flag.Skipwhite None = refl
flag_read kind seen flag.Skipwhite (Some more) = refl
flag_read kind seen flag.Skipnl None = refl
flag_read kind seen flag.Skipnl (Some more) = refl
flag_read kind seen flag.Skipempty None = refl
flag_read kind seen flag.Skipempty (Some more) = refl
flag_read kind seen flag.Display None = refl
flag_read kind seen flag.Display (Some more) = refl
flag_read kind seen flag.Fold None = refl
flag_read kind seen flag.Fold (Some more) = refl
flag_read kind seen flag.Conceal None = refl
flag_read kind seen flag.Conceal (Some more) = refl
flag_read kind seen flag.Concealends None = refl
flag_read kind seen flag.Concealends (Some more) = refl

-- Patterns.

and_false : (b : Bool) → (b && false) ≡ false
and_false true = refl
and_false false = refl

no_slash : (c : ℕ) → is_plain_character c ≡ true → nat_eq c 47 ≡ false
no_slash c is =
    or_left (nat_eq c 47) (nat_eq c 92)
    (or_left (nat_eq c 47 || nat_eq c 92) (nat_eq c 91) (not_true (nat_eq c 47 || nat_eq c 92 || nat_eq c 91) is))

no_backslash : (c : ℕ) → is_plain_character c ≡ true → nat_eq c 92 ≡ false
no_backslash c is =
    or_right (nat_eq c 47) (nat_eq c 92)
    (or_left (nat_eq c 47 || nat_eq c 92) (nat_eq c 91) (not_true (nat_eq c 47 || nat_eq c 92 || nat_eq c 91) is))

no_bracket : (c : ℕ) → is_plain_character c ≡ true → nat_eq c 91 ≡ false
no_bracket c is =
    or_right (nat_eq c 47 || nat_eq c 92) (nat_eq c 91) (not_true (nat_eq c 47 || nat_eq c 92 || nat_eq c 91) is)

-- a plain character leaves the scan as it is
scan_stays : (c : ℕ) (text : List ℕ) → is_plain_character c ≡ true
    → scan_next first_scan c text ≡ first_scan
scan_stays c text is =
    let bracket = no_bracket c is in
    let backslash = no_backslash c is in
    rw (bracket, backslash, and_false (nat_eq c 37)) refl

abbrev found : List ℕ → List ℕ → Option (List ℕ × List ℕ)
found text rest = Some (text, rest)

delimited_plain : (text rest so_far : List ℕ) → list_all is_plain_character text ≡ true
    → delimited_after 47 first_scan so_far (text ++ 47 ∷ rest) ≡ Some (so_far ++ text, rest)
delimited_plain [] rest so_far all = ap (λ (w : List ℕ). found w rest) (sym (append-nil so_far))
delimited_plain (c ∷ cs) rest so_far all =
    let is = and_left (is_plain_character c) (list_all is_plain_character cs) all in
    let slash = no_slash c is in
    let later = delimited_plain cs rest (so_far ++ c ∷ []) (and_right (is_plain_character c) (list_all is_plain_character cs) all) in
    rw slash
    (ap (λ scan. delimited_after 47 scan (so_far ++ c ∷ []) (cs ++ 47 ∷ rest)) (scan_stays c (c ∷ (cs ++ 47 ∷ rest)) is)
    ∙ later ∙ ap (λ (w : List ℕ). found w rest) (append_assoc so_far (c ∷ []) cs))

no_offsets : (tail : Option (List ℕ)) → offsets (behind tail) ≡ Some (no_adjusts, behind tail)
no_offsets None = refl
no_offsets (Some more) = refl

quoted_plain : (text : List ℕ) (tail : Option (List ℕ)) → list_all is_plain_character text ≡ true
    → quoted (47 ∷ text ++ 47 ∷ behind tail) ≡ Ok (plain_quote text, behind tail)
quoted_plain text tail all =
    ap quoted_from (delimited_plain text (behind tail) [] all) ∙ ap (with_offsets text) (no_offsets tail)

abbrev as_quote : Role → Read Quoted → Read Piece
as_quote r q = q >>= λ found. Ok (Quote r found.0, found.1)

abbrev quote_answer : Role → List ℕ → Quoted → Read Piece
quote_answer r rest q = Ok (Quote r q, rest)

pub quote_read : (r : Role) (q : Quoted) (tail : Option (List ℕ)) → IsPlainQuote q
    → quote_as r (quoted_text q ++ behind tail) ≡ Ok (Quote r q, behind tail)
quote_read r q tail plain =
    ap (λ (text : List ℕ). quote_as r (47 ∷ text)) (append_assoc q.text (47 ∷ []) (behind tail))
    ∙ ap (as_quote r) (quoted_plain q.text tail plain.characters)
    ∙ ap (quote_answer r (behind tail)) (sym plain.without_offsets)
