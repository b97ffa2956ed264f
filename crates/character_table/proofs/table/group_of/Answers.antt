-- What is read as a triplet meets the conditions on a generator; and a text writes one operation.
use Rattle.std.proofs.Common.{zero, suc, ◌↔◌, [], ◌∷◌, subst, arith}
use Rattle.std.specs.List.{All}
use Rattle.irr_space.specs.SpaceGroup.{Generated}
use Rattle.irr_seitz.specs.OperationMeaning.{operation}
use Rattle.irr_seitz.specs.declared.op.Op.{Op}
use Rattle.irr_triplet.specs.Readable.{IsReadable}
use Rattle.irr_close.specs.StandsFor.{stands_for}
use Rattle.irr_top.proofs.Numerators.{readable_generators, readable_unimodular}
use Rattle.character_table.proofs.table.group_of.Goals as goal

both : {A : Type 0} (P : A → Type 0) (x y : A) → P x → P y → All P (x ∷ y ∷ [])
both P x y p q zero d l = p
both P x y p q (suc zero) d l = q
both P x y p q (suc (suc k)) d l = absurd (omega (arith, l))

readable : (c : goal.After-close-arg-1) → All (λ (op : Op). IsReadable (operation op)) (c.in-Ok.g ∷ c.in-Ok-read_triplet.h ∷ [])
readable c = both (λ (op : Op). IsReadable (operation op)) c.in-Ok.g c.in-Ok-read_triplet.h c.in-Ok.ensures.readable
    c.in-Ok-read_triplet.ensures.readable

pub close-requires-clause-generators : goal.close-requires-clause-generators
close-requires-clause-generators c = readable_generators (c.in-Ok.g ∷ c.in-Ok-read_triplet.h ∷ []) (readable c)

pub close-requires-clause-unimodular : goal.close-requires-clause-unimodular
close-requires-clause-unimodular c = readable_unimodular (c.in-Ok.g ∷ c.in-Ok-read_triplet.h ∷ []) (readable c)

pub returns-in-Ok-close : goal.returns-in-Ok-close
returns-in-Ok-close c = λ g h s t x. subst (λ a. stands_for c.in-Ok-close.group x ↔ Generated (a ∷ h ∷ []) x) (c.in-Ok.ensures.only g s)
    (subst (λ b. stands_for c.in-Ok-close.group x ↔ Generated (operation c.in-Ok.g ∷ b ∷ []) x) (c.in-Ok-read_triplet.ensures.only h t)
    (c.in-Ok-close.ensures.group x))
