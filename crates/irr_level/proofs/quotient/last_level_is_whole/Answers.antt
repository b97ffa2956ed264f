-- What a level generates, in another order.
use Rattle.irr_chain.proofs.Chains.{whole_in, whole_subgroup}
use Rattle.irr_level.proofs.TableLevels.{other_order}
use Rattle.irr_level.proofs.quotient.last_level_is_whole.Goals as goal

pub returns : goal.returns
returns c = record {
  any_order = λ h T level outer other so subgroup to from. other_order T level outer other so subgroup to from;
  whole = λ h T level outer members so all count numbers.
      other_order T level outer members so (whole_subgroup T members count numbers) (λ i k. whole_in T members count numbers i) (λ i k. all i);
}
