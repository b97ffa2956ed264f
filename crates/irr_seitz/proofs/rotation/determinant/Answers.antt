use Rattle.std.proofs.Common.{◌≡◌, sym, ◌∙◌, ap₂, subst₂, [], get_or, ℤ, pos, ◌+ℤ◌, ◌-ℤ◌, ◌*ℤ◌, FitsSigned, to_z, of_z}
use Rattle.std.specs.Int.{w64}
use Rattle.std.proofs.lemmas.Int.{to_z-of_z}
use Rattle.irr_algebra.specs.Fin.{to_nat}
use Rattle.irr_seitz.specs.Rotation.{rotation_of, determinant}
use Rattle.irr_seitz.proofs.Sizes.{difference_fits}
use Rattle.irr_seitz.proofs.rotation.determinant.Goals as goal

-- a number of 64 bits read back
read : (a b : ℤ) → FitsSigned w64 a → a ≡ b → to_z w64 (of_z w64 a) ≡ b
read a b f e = to_z-of_z w64 a f ∙ e

pub overflow_sub-result : goal.overflow_sub-result
overflow_sub-result c = subst₂ (λ x y. FitsSigned w64 (x -ℤ y)) (sym (to_z-of_z w64 c.sum-added.result (record { sfits = c.sum-added.type_inv })))
    (sym (to_z-of_z w64 c.sum-taken.result (record { sfits = c.sum-taken.type_inv }))) (difference_fits c.sum-added.result c.sum-taken.result c.sum-added.ensures.small c.sum-taken.ensures.small)

entry_x : (c : goal.After-sum-taken) → to_z w64 (of_z w64 c.entry-x.result) ≡ get_or (get_or c.args.rot.now 0 []) 0 (pos 0)
entry_x c = read c.entry-x.result _ (record { sfits = c.entry-x.type_inv }) c.entry-x.ensures.value

entry_y : (c : goal.After-sum-taken) → to_z w64 (of_z w64 c.entry-y.result) ≡ get_or (get_or c.args.rot.now 0 []) 1 (pos 0)
entry_y c = read c.entry-y.result _ (record { sfits = c.entry-y.type_inv }) c.entry-y.ensures.value

entry_z : (c : goal.After-sum-taken) → to_z w64 (of_z w64 c.entry-z.result) ≡ get_or (get_or c.args.rot.now 0 []) 2 (pos 0)
entry_z c = read c.entry-z.result _ (record { sfits = c.entry-z.type_inv }) c.entry-z.ensures.value

entry_u : (c : goal.After-sum-taken) → to_z w64 (of_z w64 c.entry-u.result) ≡ get_or (get_or c.args.rot.now 1 []) 0 (pos 0)
entry_u c = read c.entry-u.result _ (record { sfits = c.entry-u.type_inv }) c.entry-u.ensures.value

entry_v : (c : goal.After-sum-taken) → to_z w64 (of_z w64 c.entry-v.result) ≡ get_or (get_or c.args.rot.now 1 []) 1 (pos 0)
entry_v c = read c.entry-v.result _ (record { sfits = c.entry-v.type_inv }) c.entry-v.ensures.value

entry_w : (c : goal.After-sum-taken) → to_z w64 (of_z w64 c.entry-w.result) ≡ get_or (get_or c.args.rot.now 1 []) 2 (pos 0)
entry_w c = read c.entry-w.result _ (record { sfits = c.entry-w.type_inv }) c.entry-w.ensures.value

entry_p : (c : goal.After-sum-taken) → to_z w64 (of_z w64 c.entry-p.result) ≡ get_or (get_or c.args.rot.now 2 []) 0 (pos 0)
entry_p c = read c.entry-p.result _ (record { sfits = c.entry-p.type_inv }) c.entry-p.ensures.value

entry_q : (c : goal.After-sum-taken) → to_z w64 (of_z w64 c.entry-q.result) ≡ get_or (get_or c.args.rot.now 2 []) 1 (pos 0)
entry_q c = read c.entry-q.result _ (record { sfits = c.entry-q.type_inv }) c.entry-q.ensures.value

entry_r : (c : goal.After-sum-taken) → to_z w64 (of_z w64 c.entry-r.result) ≡ get_or (get_or c.args.rot.now 2 []) 2 (pos 0)
entry_r c = read c.entry-r.result _ (record { sfits = c.entry-r.type_inv }) c.entry-r.ensures.value

triple_0 : (c : goal.After-sum-taken) → to_z w64 (of_z w64 c.triple.result) ≡ ((get_or (get_or c.args.rot.now 0 []) 0 (pos 0)) *ℤ (get_or (get_or c.args.rot.now 1 []) 1 (pos 0))) *ℤ (get_or (get_or c.args.rot.now 2 []) 2 (pos 0))
triple_0 c = read c.triple.result _ (record { sfits = c.triple.type_inv }) (c.triple.ensures.value ∙ ap₂ ◌*ℤ◌ (ap₂ ◌*ℤ◌ (entry_x c) (entry_v c)) (entry_r c))

triple_1 : (c : goal.After-sum-taken) → to_z w64 (of_z w64 c.triple-2.result) ≡ ((get_or (get_or c.args.rot.now 0 []) 1 (pos 0)) *ℤ (get_or (get_or c.args.rot.now 1 []) 2 (pos 0))) *ℤ (get_or (get_or c.args.rot.now 2 []) 0 (pos 0))
triple_1 c = read c.triple-2.result _ (record { sfits = c.triple-2.type_inv }) (c.triple-2.ensures.value ∙ ap₂ ◌*ℤ◌ (ap₂ ◌*ℤ◌ (entry_y c) (entry_w c)) (entry_p c))

triple_2 : (c : goal.After-sum-taken) → to_z w64 (of_z w64 c.triple-3.result) ≡ ((get_or (get_or c.args.rot.now 0 []) 2 (pos 0)) *ℤ (get_or (get_or c.args.rot.now 1 []) 0 (pos 0))) *ℤ (get_or (get_or c.args.rot.now 2 []) 1 (pos 0))
triple_2 c = read c.triple-3.result _ (record { sfits = c.triple-3.type_inv }) (c.triple-3.ensures.value ∙ ap₂ ◌*ℤ◌ (ap₂ ◌*ℤ◌ (entry_z c) (entry_u c)) (entry_q c))

triple_3 : (c : goal.After-sum-taken) → to_z w64 (of_z w64 c.triple-4.result) ≡ ((get_or (get_or c.args.rot.now 0 []) 2 (pos 0)) *ℤ (get_or (get_or c.args.rot.now 1 []) 1 (pos 0))) *ℤ (get_or (get_or c.args.rot.now 2 []) 0 (pos 0))
triple_3 c = read c.triple-4.result _ (record { sfits = c.triple-4.type_inv }) (c.triple-4.ensures.value ∙ ap₂ ◌*ℤ◌ (ap₂ ◌*ℤ◌ (entry_z c) (entry_v c)) (entry_p c))

triple_4 : (c : goal.After-sum-taken) → to_z w64 (of_z w64 c.triple-5.result) ≡ ((get_or (get_or c.args.rot.now 0 []) 1 (pos 0)) *ℤ (get_or (get_or c.args.rot.now 1 []) 0 (pos 0))) *ℤ (get_or (get_or c.args.rot.now 2 []) 2 (pos 0))
triple_4 c = read c.triple-5.result _ (record { sfits = c.triple-5.type_inv }) (c.triple-5.ensures.value ∙ ap₂ ◌*ℤ◌ (ap₂ ◌*ℤ◌ (entry_y c) (entry_u c)) (entry_r c))

triple_5 : (c : goal.After-sum-taken) → to_z w64 (of_z w64 c.triple-6.result) ≡ ((get_or (get_or c.args.rot.now 0 []) 0 (pos 0)) *ℤ (get_or (get_or c.args.rot.now 1 []) 2 (pos 0))) *ℤ (get_or (get_or c.args.rot.now 2 []) 1 (pos 0))
triple_5 c = read c.triple-6.result _ (record { sfits = c.triple-6.type_inv }) (c.triple-6.ensures.value ∙ ap₂ ◌*ℤ◌ (ap₂ ◌*ℤ◌ (entry_x c) (entry_w c)) (entry_q c))

pub returns : goal.returns
unfolding determinant rotation_of to_nat
returns c = to_z-of_z w64 _ (overflow_sub-result c)
    ∙ ap₂ ◌-ℤ◌ (read c.sum-added.result _ (record { sfits = c.sum-added.type_inv }) (c.sum-added.ensures.value ∙ ap₂ ◌+ℤ◌ (ap₂ ◌+ℤ◌ (triple_0 c) (triple_1 c)) (triple_2 c)))
    (read c.sum-taken.result _ (record { sfits = c.sum-taken.type_inv }) (c.sum-taken.ensures.value ∙ ap₂ ◌+ℤ◌ (ap₂ ◌+ℤ◌ (triple_3 c) (triple_4 c)) (triple_5 c)))
