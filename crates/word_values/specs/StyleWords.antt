-- Keys of a style, and colours (Vim's help, highlight-args).
use Rattle.std.specs.Prelude.{ℕ, ◌+◌, ◌*◌, nat_eq, nat_lt, nat_le, ◌&&◌, ◌||◌, List, [], ◌∷◌, length, Option, Some, None, Bool, if◌then◌else◌, codes}
use Rattle.std.specs.Char.{digit_value}
use Rattle.word_values.specs.declared.style_words.StyleKey.{StyleKey}
use Rattle.word_values.specs.declared.style_words.StyleKey.TheVariants.{FrontColour, BackColour, Shapes, NoEffect}
use Rattle.word_reader.specs.Words.{is_word}

abbrev pub has_no_effect : List ℕ → Bool
has_no_effect key =
    is_word key (codes "term") || is_word key (codes "cterm") || is_word key (codes "ctermfg") || is_word key (codes "ctermbg") || is_word key (codes "ctermul")
    || is_word key (codes "ctermfont") || is_word key (codes "start") || is_word key (codes "stop") || is_word key (codes "font") || is_word key (codes "guisp")

abbrev pub style_key : List ℕ → Option StyleKey
style_key key =
    if is_word key (codes "guifg") then Some FrontColour
    else if is_word key (codes "guibg") then Some BackColour
    else if is_word key (codes "gui") then Some Shapes
    else if has_no_effect key then Some NoEffect
    else None

-- a number with one hexadecimal digit more; six digits are never above 0xFFFFFF
abbrev pub with_hex : ℕ → ℕ → Option ℕ
with_hex n c = if nat_lt (digit_value c) 16 && nat_le (n * 16 + digit_value c) 16777215 then Some (n * 16 + digit_value c) else None

abbrev pub hex_after : ℕ → List ℕ → Option ℕ
hex_after n [] = Some n
hex_after n (c ∷ cs) = elim (with_hex n c) [ None ↦ None | Some m ↦ hex_after m cs ]

-- six hexadecimal digits
abbrev pub rgb : List ℕ → Option ℕ
rgb digits = if nat_eq (length digits) 6 then hex_after 0 digits else None
