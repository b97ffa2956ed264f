-- The blocks can be joined.
use Rattle.std.proofs.Common.{◌≡◌, sym, ◌∙◌, ap, subst, [], ◌∷◌, ◌++◌, Some, None}
use Rattle.irr_mat.specs.Blocks.{AreJoinable}
use Rattle.irr_mat.specs.Entries.{first_order}
use Rattle.irr_mat.proofs.Blocks.{crossed_blocks}
use Rattle.irr_mat.proofs.tests.crossed.Goals as goal

pub block-requires-clause-blocks : goal.block-requires-clause-blocks
block-requires-clause-blocks g c =
    let n = c.args.order.now.n in
    let order = g.S.Scalar.order_of in
    let a = c.in_ok-a.a in
    let b = c.in_ok-b.b in
    let upper : c.push-2.new.self.items ≡ None ∷ Some a ∷ [] =
    c.in_ok-push-2.ensures.items ∙ ap (λ xs. xs ++ Some a ∷ []) (c.in_ok-push.ensures.items ∙ ap (λ xs. xs ++ None ∷ []) c.new-first.ensures.items) in
    let lower : c.push-4.new.self.items ≡ Some b ∷ None ∷ [] =
    c.in_ok-push-4.ensures.items ∙ ap (λ xs. xs ++ None ∷ []) (c.in_ok-push-3.ensures.items ∙ ap (λ xs. xs ++ Some b ∷ []) c.new-second.ensures.items) in
    subst (λ xs. AreJoinable (λ m. m.rows) (λ m. m.cols) (λ m. first_order order m.entries.items) n (xs ∷ c.push-4.new.self.items ∷ [])) (sym upper)
    (subst (λ xs. AreJoinable (λ m. m.rows) (λ m. m.cols) (λ m. first_order order m.entries.items) n ((None ∷ Some a ∷ []) ∷ xs ∷ [])) (sym lower)
    (crossed_blocks (λ m. m.rows) (λ m. m.cols) (λ m. first_order order m.entries.items) n a b
    c.in_ok-a.ensures.rows c.in_ok-a.ensures.cols c.in_ok-a.ensures.order c.in_ok-b.ensures.rows c.in_ok-b.ensures.cols c.in_ok-b.ensures.order))
