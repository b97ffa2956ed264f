-- The answer to a question of a group.
--   order_limit               the limit on the order of numbers
--   IsReply q G s text        the status and the text are those of the command
--   IsTooLargeAt q G n        of the orders that the answer needs, n is the first above the limit
--   AreWithin q G             all orders that the answer needs are within the limit
--   AsksOfGroup q G s text    an order that is too large, or else the status and the text of the command
--   IsReplied q G r           the orders are within the limit, and r is the reply
--   IsNoReply q G e           an order that is too large; want of memory says nothing
use Rattle.std.specs.Prelude.{ℕ, ◌<◌, ◌≤◌, List}
use Rattle.irr_cyc.specs.declared.orders.TheConstants.{ORDER_LIMIT}
use Rattle.irr_space.specs.Operation.{Operation}
use Rattle.irr_top.specs.Question.{Question, IsNeededOrder}
use Rattle.irr_top.specs.Question.Question.{star, small, full, product, subduce, compat, real, square, tensor, site, check, summary}
use Rattle.irr_top.specs.StarCommand.{IsStarReply}
use Rattle.irr_top.specs.SmallCommand.{IsSmallReply}
use Rattle.irr_top.specs.FullCommand.{IsFullReply}
use Rattle.irr_top.specs.ProductCommand.{IsProductReply}
use Rattle.irr_top.specs.SubduceCommand.{IsSubduceReply}
use Rattle.irr_top.specs.CompatCommand.{IsCompatReply}
use Rattle.irr_top.specs.RealCommand.{IsRealReply}
use Rattle.irr_top.specs.SquareCommand.{IsSquareReply}
use Rattle.irr_top.specs.TensorCommand.{IsTensorReply}
use Rattle.irr_top.specs.SiteCommand.{IsSiteReply}
use Rattle.irr_top.specs.CheckCommand.{IsCheckReply}
use Rattle.irr_top.specs.GenCommand.{IsGenReply}
use Rattle.irr_top.specs.RefusalText.{refusal_text}
use Rattle.irr_top.specs.declared.reply.Reply.{Reply}
use Rattle.irr_top.specs.declared.reply.NoReply.{NoReply}
use Rattle.irr_top.specs.declared.reply.NoReply.TheVariants.{OrderTooLarge, Memory}
use Rattle.irr_top.specs.declared.status.Status.{Status}
use Rattle.irr_top.specs.declared.status.Status.TheVariants.{TooLarge}
use Rattle.irr_top.specs.declared.status.Kind.TheVariants.{Order}

abbrev pub order_limit : ℕ
order_limit = ORDER_LIMIT

abbrev pub IsReply : Question → (Operation → Type 0) → Status → List ℕ → Type 0
IsReply (star k) G s text = IsStarReply G k s text
IsReply (small k) G s text = IsSmallReply G k s text
IsReply (full k) G s text = IsFullReply G k s text
IsReply (product k l) G s text = IsProductReply G k l s text
IsReply (subduce k S) G s text = IsSubduceReply G k S s text
IsReply (compat k others) G s text = IsCompatReply G k others s text
IsReply (real k) G s text = IsRealReply G k s text
IsReply (square k) G s text = IsSquareReply G k s text
IsReply (tensor f) G s text = IsTensorReply G f s text
IsReply (site x k) G s text = IsSiteReply G x k s text
IsReply (check r) G s text = IsCheckReply G r s text
IsReply (summary number lines k) G s text = IsGenReply G number lines k s text

pub record IsTooLargeAt (q : Question) (G : Operation → Type 0) (n : ℕ) : Type 0 where
  pub place : ℕ
  pub is_order : IsNeededOrder q G place n
  pub above : order_limit < n
  pub first : (i m : ℕ) → i < place → IsNeededOrder q G i m → m ≤ order_limit

abbrev pub AreWithin : Question → (Operation → Type 0) → Type 0
AreWithin q G = (i n : ℕ) → IsNeededOrder q G i n → n ≤ order_limit

pub data AsksOfGroup (q : Question) (G : Operation → Type 0) : Status → List ℕ → Type 0 where
  order_too_large : {n : ℕ} → IsTooLargeAt q G n
      → AsksOfGroup q G (TooLarge (Order n)) (refusal_text (TooLarge (Order n)))
  reply : {s : Status} {text : List ℕ} → AreWithin q G → IsReply q G s text → AsksOfGroup q G s text

abbrev pub IsReplied : Question → (Operation → Type 0) → Reply → Type 0
IsReplied q G r = AreWithin q G × IsReply q G r.status r.text.items

abbrev pub IsNoReply : Question → (Operation → Type 0) → NoReply → Type 0
IsNoReply q G (OrderTooLarge n) = IsTooLargeAt q G n
IsNoReply q G Memory = Unit {0}
