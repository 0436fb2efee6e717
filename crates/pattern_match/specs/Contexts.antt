-- What an attempt is made with.
use Rattle.match_rules.specs.Ways.{Text, Context as AnyContext}
use Rattle.pattern_match.specs.declared.context.Context.{Context}

abbrev pub context_in : Text → Context → AnyContext
context_in text c = record {
  text = text;
  ignore = c.ignore;
  sets = c.sets.now;
  externals = c.externals.now;
}
