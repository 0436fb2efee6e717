use Rattle.std.proofs.Common.{refl}
use Rattle.std.proofs.lemmas.Option.{slice_get_past, slice_get_read}
use Rattle.syn_base.proofs.ExternalLaws.{kept_text, absent_text}
use Rattle.syn_base.proofs.externals.Externals.part.Goals as goal

pub returns-in-Some : goal.returns-in-Some
returns-in-Some c =
    let found = c.in-Some.ensures.lookup in
    let all = c.as_slice.ensures in
    let same = c.as_slice-in-Some.ensures in
    let whole = c.self.view_is in
    let known = slice_get_read c.as_slice.result.now _ c.args.i c.in-Some.part.now refl found.3.0 found.1 in
    let told = kept_text c.self.inside.parts c.args.i c.in-Some.part.now (cc) in
    cc

pub returns-in-None : goal.returns-in-None
returns-in-None c =
    let past = c.in-None.ensures.lookup.3 in
    let all = c.as_slice.ensures in
    let whole = c.self.view_is in
    let none = slice_get_past c.as_slice.result.now c.args.i past in
    let told = absent_text c.self.inside.parts c.args.i c.self.invariant c.requires (cc) in
    cc
