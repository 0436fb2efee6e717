-- Characters as UTF-8, one after the other.
use Rattle.std.proofs.Common.{◌≡◌, ℕ, ◌+◌, ◌<◌, List, [], ◌∷◌, ◌++◌, length, take, get_or, ap, sym, ◌∙◌, append_assoc}
use Rattle.std.specs.Prelude.{encode_utf8, encode_utf8_all}
use Rattle.std.proofs.lemmas.List.{append-nil, take_more}
use Rattle.std.proofs.lemmas.Str.{encodes-append}

-- the bytes of the characters up to one end with the bytes of that one
one_more : (characters : List ℕ) (i c : ℕ) → i < length characters → c ≡ get_or characters i c → encode_utf8_all (take (i + 1) characters) ≡ encode_utf8_all (take i characters) ++ encode_utf8 c
one_more characters i c within at =
    ap encode_utf8_all (take_more characters i c within)
    ∙ encodes-append (take i characters) (get_or characters i c ∷ [])
    ∙ ap (λ bytes. encode_utf8_all (take i characters) ++ bytes) (append-nil (encode_utf8 (get_or characters i c)))
    ∙ ap (λ d. encode_utf8_all (take i characters) ++ encode_utf8 d) (sym at)

-- behind what was there stand the characters so far, and then one more
pub further : (characters first so_far next : List ℕ) (i c : ℕ) → i < length characters → c ≡ get_or characters i c → so_far ≡ first ++ encode_utf8_all (take i characters) → next ≡ so_far ++ encode_utf8 c → next ≡ first ++ encode_utf8_all (take (i + 1) characters)
further characters first so_far next i c within at before after =
    after
    ∙ ap (λ bytes. bytes ++ encode_utf8 c) before
    ∙ append_assoc first (encode_utf8_all (take i characters)) (encode_utf8 c)
    ∙ ap (λ bytes. first ++ bytes) (sym (one_more characters i c within at))
