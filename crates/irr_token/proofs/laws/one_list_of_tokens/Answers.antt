-- Texts spell one list of tokens.
use Rattle.irr_token.proofs.SpelledOnce.{spelled_once}
use Rattle.irr_token.proofs.laws.one_list_of_tokens.Goals as goal

pub returns : goal.returns
returns c = λ at ts us text a b x y. spelled_once at ts us text a b x y
