use Rattle.std.proofs.Common.{sym, subst}
use Rattle.irr_close.specs.Centring.{AreInCell}
use Rattle.irr_close.specs.Canonical.{IsNumberedFrom}
use Rattle.irr_close.specs.StandsFor.{stands_for}
use Rattle.irr_close.proofs.Bareness.{first_of}
use Rattle.irr_close.proofs.CanonicalForm.{are_canonical, canonical_stands}
use Rattle.irr_close.proofs.group.Group.new.Goals as goal

pub number-requires-clause-centrings : goal.number-requires-clause-centrings
number-requires-clause-centrings c = subst AreInCell (sym c.deref.ensures.value) (record {
  common = c.requires.closing.denominator.common;
  positive = c.requires.closing.denominator.positive;
  small = c.requires.closing.denominator.small;
  divide = c.requires.closing.denominator.divide;
  in_cell = c.requires.closing.in_cell;
})

pub invariant_of-result : goal.invariant_of-result
invariant_of-result c = record {
  form = ∣ are_canonical c.args.kept.now c.args.centrings.items c.requires.closing c.in_ok-ops.ops.items c.in_ok-centrings.centrings.items
      (subst (λ xs. IsNumberedFrom xs c.args.kept.now c.in_ok-ops.ops.items) c.deref.ensures.value c.in_ok-ops.ensures.numbered)
      c.in_ok-centrings.ensures.sorted (first_of c.args.kept.now c.requires.closing.nonempty)
      (first_of c.args.centrings.items c.requires.closing.has_centring)
      ∣₁;
  generated = ∣ record {
    generators = c.requires.generated.generators;
    same = λ g.
        let stands = canonical_stands c.args.kept.now c.args.centrings.items c.requires.closing c.in_ok-ops.ops.items
        c.in_ok-centrings.centrings.items
        (subst (λ xs. IsNumberedFrom xs c.args.kept.now c.in_ok-ops.ops.items) c.deref.ensures.value c.in_ok-ops.ensures.numbered)
        c.in_ok-centrings.ensures.sorted (first_of c.args.kept.now c.requires.closing.nonempty)
        (first_of c.args.centrings.items c.requires.closing.has_centring) g in
        let from = c.requires.generated.same g in
        (λ h. from.0 (stands.0 h), λ h. stands.1 (from.1 h));
  } ∣₁;
}

pub returns-clause-group : goal.returns-clause-group
unfolding stands_for
returns-clause-group c = canonical_stands c.args.kept.now c.args.centrings.items c.requires.closing c.in_ok-ops.ops.items
    c.in_ok-centrings.centrings.items
    (subst (λ xs. IsNumberedFrom xs c.args.kept.now c.in_ok-ops.ops.items) c.deref.ensures.value c.in_ok-ops.ensures.numbered)
    c.in_ok-centrings.ensures.sorted (first_of c.args.kept.now c.requires.closing.nonempty)
    (first_of c.args.centrings.items c.requires.closing.has_centring)
