-- Each generator is of the kind of which all are.
use Rattle.std.proofs.Common.{sym, subst}
use Rattle.std.specs.List.{All}
use Rattle.std.proofs.lemmas.List.Elements.{All-nil}
use Rattle.irr_gen.specs.Signed.{IsSigned}
use Rattle.irr_gen.proofs.MadeLines.{all_pushed}
use Rattle.irr_gen.proofs.group.diamond.Goals as goal

pub returns-clause-signed : goal.returns-clause-signed
returns-clause-signed c =
    let empty : All IsSigned c.new-made.result.items = subst (All IsSigned) (sym c.new-made.ensures.items) (All-nil IsSigned) in
    let h1 = all_pushed c.new-made.result.items c.symmetry.result c.push.new.self.items c.in_ok-push.ensures.items empty c.symmetry.ensures.signed in
    let h2 = all_pushed c.push.new.self.items c.symmetry-2.result c.push-2.new.self.items c.in_ok-push-2.ensures.items h1 c.symmetry-2.ensures.signed in
    let h3 = all_pushed c.push-2.new.self.items c.symmetry-3.result c.push-3.new.self.items c.in_ok-push-3.ensures.items h2 c.symmetry-3.ensures.signed in
    let h4 = all_pushed c.push-3.new.self.items c.symmetry-4.result c.push-4.new.self.items c.in_ok-push-4.ensures.items h3 c.symmetry-4.ensures.signed in
    let h5 = all_pushed c.push-4.new.self.items c.symmetry-5.result c.push-5.new.self.items c.in_ok-push-5.ensures.items h4 c.symmetry-5.ensures.signed in
    let h6 = all_pushed c.push-5.new.self.items c.symmetry-6.result c.push-6.new.self.items c.in_ok-push-6.ensures.items h5 c.symmetry-6.ensures.signed in
    let h7 = all_pushed c.push-6.new.self.items c.symmetry-7.result c.push-7.new.self.items c.in_ok-push-7.ensures.items h6 c.symmetry-7.ensures.signed in
    h7
