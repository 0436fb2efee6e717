-- What words give.
use Rattle.std.specs.Prelude.{ℕ, Bool, List, Option, None, false}

-- what the options say, each of which stands at most once
pub record Options : Type 0 where
  -- sync methods other than `fromstart` are passed over
  pub fromstart : Bool
  -- the folder in which included files are looked for
  pub folder : Option (List ℕ)
  -- the most ticks of one attempt
  pub budget : Option ℕ
  -- lines of the page begin with their numbers
  pub number : Bool
  -- the page has no `<pre>` element
  pub no_pre : Bool
  -- the level above which folds are closed
  pub close : Option ℕ
  -- the level of concealing
  pub conceal : Option ℕ

abbrev pub no_options : Options
no_options = record { fromstart = false; folder = None; budget = None; number = false; no_pre = false; close = None; conceal = None }

-- the syntax file, the folder in which included files are looked for, and whether sync methods other
-- than `fromstart` are passed over
pub record CheckWords : Type 0 where
  pub syntax : List ℕ
  pub folder : List ℕ
  pub assume_fromstart : Bool

-- the syntax, the text file that is painted, the most ticks of one attempt, and the level of concealing, at which 0
-- shows all
pub record PaintWords : Type 0 where
  pub syntax : CheckWords
  pub text : List ℕ
  pub budget : ℕ
  pub conceal : ℕ

-- the same, and how the page is made
pub record PageWords : Type 0 where
  pub painting : PaintWords
  pub number : Bool
  pub pre : Bool

-- what is painted, and the level above which folds are closed, if they are to be
pub record FoldWords : Type 0 where
  pub painting : PaintWords
  pub close : Option ℕ

-- the large mode: the seed of its draws, how many lines its text has at the start, and the most ticks of
-- one attempt
pub record LargeWords : Type 0 where
  pub seed : ℕ
  pub lines : ℕ
  pub budget : ℕ
