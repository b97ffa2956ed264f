-- The reply for the group of generators.
use Rattle.std.proofs.Common.{arith}
use Rattle.irr_close.specs.StandsFor.{stands_for}
use Rattle.irr_power.proofs.FormSpaces.{origin_order}
use Rattle.irr_top.proofs.TensorTexts.{tensor_reply_of}
use Rattle.irr_top.proofs.tensor.tensor_reply.Goals as goal

pub tensors_text-requires-clause-order : goal.tensors_text-requires-clause-order
tensors_text-requires-clause-order c = origin_order (stands_for c.args.group.now) c.exponent-order.result c.exponent-order.ensures.exponent

pub returns-clause-reply : goal.returns-clause-reply
returns-clause-reply c = λ gens is.
    tensor_reply_of c.args.group.now gens is c.args.form c.exponent-order.result
    (origin_order (stands_for c.args.group.now) c.exponent-order.result c.exponent-order.ensures.exponent)
    (let few = c.exponent-order.ensures.small in omega (arith, few)) c.in_ok-text.text.items c.in_ok-text.ensures
