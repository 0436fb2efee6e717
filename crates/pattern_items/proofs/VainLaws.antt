-- A search in vain tells how later searches end.
use Rattle.std.proofs.Common.{◌≡◌, ℕ, zero, suc, ◌+◌, List, [], ◌∷◌, ◌++◌, drop, length, refl, ap, sym, ◌∙◌, Bool, true, false, subst, zero-add}
use Rattle.std.specs.Prelude.{Option, Some, None, nat_eq, ◌||◌, if◌then◌else◌}
use Rattle.std.proofs.lemmas.Bool.{eqb-true}
use Rattle.pattern_items.specs.Collection.{closing, past_bracket, collection_len, collection_end, end_from, taken_along, name_len, one_if_any}
use Rattle.pattern_items.specs.ClassNames.{name_at, word}
use Rattle.pattern_items.specs.declared.class_names.ClassName.{ClassName}
use Rattle.pattern_items.specs.declared.class_names.ClassName.TheVariants.{Alnum, Alpha, Blank, Cntrl, Digit, Graph, Lower, Print, Punct, Space, Upper, Xdigit, Return, Tab, Escape, Backspace, Ident, Keyword, Fname}
use Rattle.pattern_items.specs.Vain.{plain_after, plain_close, PlainlyIf, ClosesPlainly, IsVain, Known}
use Rattle.pattern_items.proofs.NameLaws.{named_text, word_without, has_bracket}

-- what is in vain is so wherever the count begins
closing_shift : (k n m : ℕ) (cs : List ℕ) → closing k n cs ≡ None → closing k m cs ≡ None
closing_shift k n m [] h = refl
closing_shift (suc k) n m (c ∷ cs) h = closing_shift k (n + 1) (m + 1) cs h
closing_shift zero n m (c ∷ cs) h = by_test (nat_eq c 93) (closing_shift (taken_along c cs) (n + 1) (m + 1) cs) h
  where
    by_test : (b : Bool) → (closing (taken_along c cs) (n + 1) cs ≡ None → closing (taken_along c cs) (m + 1) cs ≡ None) →
        ◌≡◌ {A = Option ℕ} (elim b [ true ↦ Some (n + 1) | false ↦ closing (taken_along c cs) (n + 1) cs ]) None → ◌≡◌ {A = Option ℕ} (elim b [ true ↦ Some (m + 1) | false ↦ closing (taken_along c cs) (m + 1) cs ]) None
    by_test true rest e = cc
    by_test false rest e = rest e

-- behind a character that closes nothing
open_step : (c : ℕ) (cs : List ℕ) (b : Bool) → ◌≡◌ {A = Option ℕ} (elim b [ true ↦ Some 1 | false ↦ closing (taken_along c cs) 1 cs ]) None → closing (taken_along c cs) 0 cs ≡ None
open_step c cs true e = cc
open_step c cs false e = closing_shift (taken_along c cs) 1 0 cs e

vain_step : (c : ℕ) (cs : List ℕ) → closing 0 0 (c ∷ cs) ≡ None → closing (taken_along c cs) 0 cs ≡ None
vain_step c cs h = open_step c cs (nat_eq c 93) h

-- Plain characters up to a `]`.

closes_by : (n k c : ℕ) (cs : List ℕ) (b p q : Bool) → (plain_after (n + 1) cs ≡ Some k → closing 0 (n + 1) cs ≡ Some k) →
    (if b then Some (n + 1) else if p || q then None else plain_after (n + 1) cs) ≡ Some k →
    elim b [ true ↦ Some (n + 1) | false ↦ closing (if p then one_if_any cs else if q then name_len (name_at cs) else 0) (n + 1) cs ] ≡ Some k
closes_by n k c cs true p q rest e = e
closes_by n k c cs false true q rest e = cc
closes_by n k c cs false false true rest e = cc
closes_by n k c cs false false false rest e = rest e

-- they close a collection
plain_closes : (n k : ℕ) (cs : List ℕ) → plain_after n cs ≡ Some k → closing 0 n cs ≡ Some k
plain_closes n k [] h = h
plain_closes n k (c ∷ cs) h = closes_by n k c cs (nat_eq c 93) (nat_eq c 92) (nat_eq c 91) (plain_closes (n + 1) k cs) h

prefix_by : (n k : ℕ) (cs r : List ℕ) (b p : Bool) → (plain_after (n + 1) cs ≡ Some k → plain_after (n + 1) (cs ++ r) ≡ Some k) →
    (if b then Some (n + 1) else if p then None else plain_after (n + 1) cs) ≡ Some k → (if b then Some (n + 1) else if p then None else plain_after (n + 1) (cs ++ r)) ≡ Some k
prefix_by n k cs r true p rest e = e
prefix_by n k cs r false true rest e = cc
prefix_by n k cs r false false rest e = rest e

plain_prefix : (n k : ℕ) (w r : List ℕ) → plain_after n w ≡ Some k → plain_after n (w ++ r) ≡ Some k
plain_prefix n k [] r h = cc
plain_prefix n k (c ∷ cs) r h = prefix_by n k cs r (nat_eq c 93) (nat_eq c 92 || nat_eq c 91) (plain_prefix (n + 1) k cs r) h

-- Class names.

word_closes : (name : ClassName) → plain_after 0 (word name) ≡ Some (length (word name))
word_closes Alnum = refl
word_closes Alpha = refl
word_closes Blank = refl
word_closes Cntrl = refl
word_closes Digit = refl
word_closes Graph = refl
word_closes Lower = refl
word_closes Print = refl
word_closes Punct = refl
word_closes Space = refl
word_closes Upper = refl
word_closes Xdigit = refl
word_closes Return = refl
word_closes Tab = refl
word_closes Escape = refl
word_closes Backspace = refl
word_closes Ident = refl
word_closes Keyword = refl
word_closes Fname = refl

-- a name is plain characters up to its `]`
name_closes : (cs : List ℕ) (name : ClassName) → name_at cs ≡ Some name → plain_after 0 cs ≡ Some (length (word name))
name_closes cs name e =
    ap (plain_after 0) (named_text cs name e) ∙ plain_prefix 0 (length (word name)) (word name) (drop (length (word name)) cs) (word_closes name)

-- without a name behind it, a bracket in vain has no plain characters up to a `]`
no_plain : (cs : List ℕ) (q : Option ℕ) → plain_after 0 cs ≡ q → closing 0 1 cs ≡ None → q ≡ None
no_plain cs None e h = refl
no_plain cs (Some k) e h =
    let closes : closing 0 0 cs ≡ Some k = plain_closes 0 k cs e in
    let still_open : closing 0 0 cs ≡ None = closing_shift 0 1 0 cs h in
    cc

-- Where a collection closes.

past_by : (n d : ℕ) (ds : List ℕ) (b : Bool) → ◌≡◌ {A = Option ℕ} (elim b [ true ↦ Some (n + 1) | false ↦ closing (taken_along d ds) (n + 1) ds ]) None →
    (if b then closing 0 (n + 1) ds else elim b [ true ↦ Some (n + 1) | false ↦ closing (taken_along d ds) (n + 1) ds ]) ≡ None
past_by n d ds true e = cc
past_by n d ds false e = e

past_open : (n : ℕ) (ds : List ℕ) → closing 0 n ds ≡ None → past_bracket n ds ≡ None
past_open n [] e = refl
past_open n (d ∷ ds) e = past_by n d ds (nat_eq d 93) e

len_by : (c : ℕ) (cs : List ℕ) (b : Bool) → nat_eq c 94 ≡ b → closing 0 1 (c ∷ cs) ≡ None → (if b then past_bracket 1 cs else past_bracket 0 (c ∷ cs)) ≡ None
len_by c cs true e h =
    let caret : c ≡ 94 = eqb-true c 94 e in
    let still_open : closing 0 2 cs ≡ None = subst (λ d. closing 0 1 (d ∷ cs) ≡ None) caret h in
    past_open 1 cs (closing_shift 0 2 1 cs still_open)
len_by c cs false e h = past_open 0 (c ∷ cs) (closing_shift 0 1 0 (c ∷ cs) h)

-- nothing closes where a collection is open, so nothing closes what opens here
open_len : (cs : List ℕ) → closing 0 1 cs ≡ None → collection_len cs ≡ None
open_len [] h = refl
open_len (c ∷ cs) h = len_by c cs (nat_eq c 94) refl h

word_colon : (name : ClassName) → word name ≡ 58 ∷ drop 1 (word name)
word_colon Alnum = refl
word_colon Alpha = refl
word_colon Blank = refl
word_colon Cntrl = refl
word_colon Digit = refl
word_colon Graph = refl
word_colon Lower = refl
word_colon Print = refl
word_colon Punct = refl
word_colon Space = refl
word_colon Upper = refl
word_colon Xdigit = refl
word_colon Return = refl
word_colon Tab = refl
word_colon Escape = refl
word_colon Backspace = refl
word_colon Ident = refl
word_colon Keyword = refl
word_colon Fname = refl

colon_len : (cs x : List ℕ) → cs ≡ 58 ∷ x → collection_len cs ≡ closing 0 0 cs
colon_len cs x e = subst (λ t. collection_len t ≡ closing 0 0 t) (sym e) refl

-- a bracket before a name closes with it
named_len : (cs : List ℕ) (name : ClassName) → name_at cs ≡ Some name → collection_len cs ≡ Some (length (word name))
named_len cs name e =
    let rest = drop (length (word name)) cs in
    let begins_so : cs ≡ 58 ∷ (drop 1 (word name) ++ rest) = named_text cs name e ∙ ap (λ w. w ++ rest) (word_colon name) in
    colon_len cs (drop 1 (word name) ++ rest) begins_so ∙ plain_closes 0 (length (word name)) cs (name_closes cs name e)

close_by : (cs : List ℕ) (o : Option ClassName) → name_at cs ≡ o → closing (name_len o) 1 cs ≡ None → collection_len cs ≡ plain_close cs
close_by cs None e h = open_len cs h ∙ sym (no_plain cs (plain_after 0 cs) refl h)
close_by cs (Some name) e h = named_len cs name e ∙ sym (name_closes cs name e)

-- Behind a search in vain.

-- a bracket that is no member closes only what begins a class name
closes_open : (c : ℕ) (cs : List ℕ) (b : Bool) → nat_eq c 91 ≡ b → closing 0 0 (c ∷ cs) ≡ None → PlainlyIf b cs
closes_open c cs true e h = close_by cs (name_at cs) refl (subst (λ d. closing 0 0 (d ∷ cs) ≡ None) (eqb-true c 91 e) h)
closes_open c cs false e h = tt

-- nor does one that is passed over close anything
closes_taken : (c : ℕ) (cs : List ℕ) (b : Bool) → nat_eq c 91 ≡ b → closing 1 0 (c ∷ cs) ≡ None → PlainlyIf b cs
closes_taken c cs true e h = open_len cs h ∙ sym (no_plain cs (plain_after 0 cs) refl h)
closes_taken c cs false e h = tt

-- the first characters close plainly
abbrev Passed : ℕ → List ℕ → Type 0
Passed zero cs = Unit {0}
Passed (suc k) [] = Unit {0}
Passed (suc k) (c ∷ cs) = ClosesPlainly c cs × Passed k cs

passed_without : (w r : List ℕ) → has_bracket w ≡ false → Passed (length w) (w ++ r)
passed_without [] r e = tt
passed_without (c ∷ cs) r e = by_test (nat_eq c 91) e (passed_without cs r)
  where
    by_test : (b : Bool) → (if b then true else has_bracket cs) ≡ false → (has_bracket cs ≡ false → Passed (length cs) (cs ++ r)) →
        PlainlyIf b (cs ++ r) × Passed (length cs) (cs ++ r)
    by_test true f rest = cc
    by_test false f rest = (tt, rest f)

passed_name : (cs : List ℕ) (o : Option ClassName) → name_at cs ≡ o → Passed (name_len o) cs
passed_name cs None e = tt
passed_name cs (Some name) e =
    let rest = drop (length (word name)) cs in
    subst (λ t. Passed (length (word name)) t) (sym (named_text cs name e)) (passed_without (word name) rest (word_without name))

passed_one : (cs : List ℕ) → closing (one_if_any cs) 0 cs ≡ None → Passed (one_if_any cs) cs
passed_one [] h = tt
passed_one (d ∷ ds) h = (closes_taken d ds (nat_eq d 91) refl h, tt)

passed_by : (cs : List ℕ) (p q : Bool) → closing (if p then one_if_any cs else if q then name_len (name_at cs) else 0) 0 cs ≡ None →
    Passed (if p then one_if_any cs else if q then name_len (name_at cs) else 0) cs
passed_by cs true q h = passed_one cs h
passed_by cs false true h = passed_name cs (name_at cs) refl
passed_by cs false false h = tt

-- behind a search that was in vain
in_vain : (k : ℕ) (cs : List ℕ) → closing k 0 cs ≡ None → Passed k cs → IsVain cs
in_vain k [] h p = tt
in_vain (suc k) (c ∷ cs) h p = (p.0, in_vain k cs (closing_shift k 1 0 cs h) p.1)
in_vain zero (c ∷ cs) h p =
    let more : closing (taken_along c cs) 0 cs ≡ None = vain_step c cs h in
    (closes_open c cs (nat_eq c 91) refl h, in_vain (taken_along c cs) cs more (passed_by cs (nat_eq c 92) (nat_eq c 91) more))

-- another character than a bracket closes nothing
vain_behind : (c d : ℕ) (cs : List ℕ) → nat_eq c d ≡ true → nat_eq d 91 ≡ false → IsVain cs → IsVain (c ∷ cs)
vain_behind c d cs e f v = subst (λ x. IsVain (x ∷ cs)) (sym (eqb-true c d e)) (by_test (nat_eq d 91) f)
  where
    by_test : (b : Bool) → b ≡ false → PlainlyIf b cs × IsVain cs
    by_test true g = cc
    by_test false g = (tt, v)

vain_bracket : (n c : ℕ) (cs : List ℕ) (b : Bool) → nat_eq c 93 ≡ b → (if b then closing 0 (n + 1) cs else closing 0 n (c ∷ cs)) ≡ None → IsVain (c ∷ cs)
vain_bracket n c cs true e h = vain_behind c 93 cs e refl (in_vain 0 cs (closing_shift 0 (n + 1) 0 cs h) tt)
vain_bracket n c cs false e h = in_vain 0 (c ∷ cs) (closing_shift 0 n 0 (c ∷ cs) h) tt

vain_past : (n : ℕ) (cs : List ℕ) → past_bracket n cs ≡ None → IsVain cs
vain_past n [] h = tt
vain_past n (c ∷ cs) h = vain_bracket n c cs (nat_eq c 93) refl h

vain_caret : (c : ℕ) (cs : List ℕ) (b : Bool) → nat_eq c 94 ≡ b → (if b then past_bracket 1 cs else past_bracket 0 (c ∷ cs)) ≡ None → IsVain (c ∷ cs)
vain_caret c cs true e h = vain_behind c 94 cs e refl (vain_past 1 cs h)
vain_caret c cs false e h = vain_past 0 (c ∷ cs) h

pub vain_len : (cs : List ℕ) → collection_len cs ≡ None → IsVain cs
vain_len [] h = tt
vain_len (c ∷ cs) h = vain_caret c cs (nat_eq c 94) refl h

-- What is known.

pub len_known : (v : Bool) (cs : List ℕ) → Known v (91 ∷ cs) → v ≡ true → plain_close cs ≡ collection_len cs
len_known true cs k e = sym k.0
len_known false cs k e = cc

pub known_behind : (v : Bool) (c : ℕ) (cs : List ℕ) → Known v (c ∷ cs) → Known v cs
known_behind true c cs k = k.1
known_behind false c cs k = tt

-- behind a search
pub known_found : (cs : List ℕ) → collection_len cs ≡ None → Known true cs
known_found cs e = vain_len cs e

pub vain_drop : (n : ℕ) (text : List ℕ) → IsVain text → IsVain (drop n text)
vain_drop zero text v = v
vain_drop (suc n) [] v = v
vain_drop (suc n) (c ∷ cs) v = vain_drop n cs v.1

pub known_in_drop : (v : Bool) (n : ℕ) (text : List ℕ) → Known v text → Known v (drop n text)
known_in_drop true n text k = vain_drop n text k
known_in_drop false n text k = tt

pub known_drop : (v : Bool) (n : ℕ) (text rest : List ℕ) → rest ≡ drop n text → Known v text → Known v rest
known_drop v n text rest e k = subst (λ t. Known v t) (sym e) (known_in_drop v n text k)

-- of the bracket that begins a text

from_none : (found : Option ℕ) → found ≡ end_from 0 found
from_none None = refl
from_none (Some n) = ap Some (sym (zero-add n))

pub end_here : (c : ℕ) (text more : List ℕ) (found : Option ℕ) → text ≡ c ∷ more → c ≡ 91 → found ≡ collection_len more → found ≡ collection_end text 0
end_here c text more found front bracket e =
    let begins : text ≡ 91 ∷ more = front ∙ ap (λ d. d ∷ more) bracket in
    from_none found ∙ ap (end_from 0) e ∙ sym (ap (λ t. collection_end t 0) begins)

pub vain_behind_first : (c : ℕ) (text more : List ℕ) → text ≡ c ∷ more → collection_len more ≡ None → IsVain (drop 1 text)
vain_behind_first c text more front e = subst (λ t. IsVain (drop 1 t)) (sym front) (vain_len more e)
