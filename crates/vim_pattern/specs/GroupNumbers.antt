-- The numbers of a tree's groups, externals and references are 1 to 9.
use Rattle.pattern_items.specs.GroupNumbers.{IsOneToNine, HasNumber}
use Rattle.vim_pattern.specs.Shape.{Shape, empty, one, seq, or, and, group, external, repeat, ahead, before, whole}

abbrev pub HasNumbers : Shape → Type 0
HasNumbers empty = Unit {0}
HasNumbers (one a) = HasNumber a
HasNumbers (seq a b) = HasNumbers a × HasNumbers b
HasNumbers (or a b) = HasNumbers a × HasNumbers b
HasNumbers (and a b) = HasNumbers a × HasNumbers b
HasNumbers (group part n) = IsOneToNine n × HasNumbers part
HasNumbers (external part n) = IsOneToNine n × HasNumbers part
HasNumbers (repeat part least most lazy) = HasNumbers part
HasNumbers (ahead part negative) = HasNumbers part
HasNumbers (before part negative limit) = HasNumbers part
HasNumbers (whole part) = HasNumbers part
