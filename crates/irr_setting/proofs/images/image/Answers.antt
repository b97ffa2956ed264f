use Rattle.std.proofs.Common.{refl}
use Rattle.irr_setting.proofs.ImageLaws.{regular_numerators, may_be_image, no_rotation, no_vector}
use Rattle.irr_setting.proofs.Numbers.{if_some3}
use Rattle.irr_setting.proofs.images.image.Goals as goal

pub rotation-requires-clause-regular : goal.rotation-requires-clause-regular
rotation-requires-clause-regular c = regular_numerators c.args.setting.now c.requires.regular

pub returns-in-Some-clause-some : goal.returns-in-Some-clause-some
returns-in-Some-clause-some c = if_some3 c.with_rotation.result
    (λ f e v l. may_be_image c.args.setting.now c.requires.regular c.args.op.now f c.in-Some.rot c.in-Some.ensures.some e v f.lowest.positive l)
    c.with_rotation.ensures.rotation c.with_rotation.ensures.vector c.with_rotation.ensures.small

pub returns-in-Some-clause-none : goal.returns-in-Some-clause-none
returns-in-Some-clause-none c = λ e. no_vector c.args.setting.now c.requires.regular c.args.op.now c.in-Some.rot c.in-Some.ensures.some (c.with_rotation.ensures.none e)

pub returns-in-None-clause-none : goal.returns-in-None-clause-none
returns-in-None-clause-none c = λ _. no_rotation c.args.setting.now c.requires.regular c.args.op.now (c.in-None.ensures.none refl)
