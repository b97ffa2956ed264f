-- One number more.
use Rattle.std.proofs.Common.{refl}
use Rattle.irr_report.proofs.ValueReads.{so-far-unchanged, so-far-passes-at, so-far-joined-at, value-of-read}
use Rattle.irr_report.proofs.values.with_number.Goals as goal

pub returns-in_default : goal.returns-in_default
returns-in_default g c = record {
  more = λ n earlier texts text o r m h. so-far-unchanged g.S.Scalar.order_of g.S.Scalar.value n earlier texts text c.args.values.numbers.items c.args.values.scale
      (value-of-read n text (g.S.Scalar.value n c.args.measured.number) r) c.in_default.is h;
}

pub joined-requires-clause-positive : goal.joined-requires-clause-positive
joined-requires-clause-positive g c = c.requires.1.common.positive

pub joined-requires-clause-denominator : goal.joined-requires-clause-denominator
joined-requires-clause-denominator g c = c.requires.1.denominator_within

pub joined-requires-clause-size : goal.joined-requires-clause-size
joined-requires-clause-size g c = c.requires.1.size_within

pub returns-in_default-joined : goal.returns-in_default-joined
returns-in_default-joined g c = record {
  more = λ n earlier texts text o r m h. so-far-passes-at g.S.Scalar.order_of g.S.Scalar.value n earlier texts text c.args.values.numbers.items c.args.values.scale
      c.args.measured.denominator c.args.measured.size m c.in-Some.scale c.in-Some.is (c.in_default-joined.ensures.none refl) h;
}

pub returns : goal.returns
returns g c = record {
  more = λ n earlier texts text o r m h. so-far-joined-at g.S.Scalar.order_of g.S.Scalar.value n earlier texts text c.args.values.numbers.items c.push.new.self.items
      c.args.values.scale c.args.measured.number c.args.measured.denominator c.args.measured.size o r m c.in-Some.scale c.in-Some-joined.joined c.in-Some.is
      c.in-Some-joined.ensures.joined c.in_ok-push.ensures.items h;
}
