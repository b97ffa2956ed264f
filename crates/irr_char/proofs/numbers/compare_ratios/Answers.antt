-- Whole parts first, and then what is left over them.
use Rattle.std.proofs.Common.{rules, ◌≡◌, sym, ◌∙◌, ap, ap₂, ℕ, ℤ, pos, ◌*◌, FitsSigned, to_z, of_z}
use Rattle.std.proofs.lemmas.Int.{to_z-of_z}
use mir.Syntax.{w128}
use Rattle.std.specs.Int.{int_div_euclid, int_rem_euclid}
use Rattle.std.specs.Int.RustNames.{unsigned_abs}
use Rattle.std.specs.Ordering.{int_cmp, nat_cmp}
use Rattle.irr_char.proofs.Comparisons.{by_whole, by_rest}
use Rattle.irr_char.proofs.numbers.compare_ratios.Goals as goal

-- a number is read as it was written
read : (z : ℤ) → FitsSigned w128 z → to_z w128 (of_z w128 z) ≡ z
read z f = to_z-of_z w128 z f

quotient_is : (r a d : ℤ) (b : ℕ) → FitsSigned w128 a → FitsSigned w128 d → d ≡ pos b
    → r ≡ int_div_euclid (to_z w128 (of_z w128 a)) (to_z w128 (of_z w128 d)) → r ≡ int_div_euclid a (pos b)
quotient_is r a d b f g e q = q ∙ ap₂ int_div_euclid (read a f) (read d g ∙ e)

rest_is : (u : ℕ) (r a d : ℤ) (b : ℕ) → FitsSigned w128 a → FitsSigned w128 d → FitsSigned w128 r → d ≡ pos b
    → r ≡ int_rem_euclid (to_z w128 (of_z w128 a)) (to_z w128 (of_z w128 d))
    → u ≡ unsigned_abs (to_z w128 (of_z w128 r)) → u ≡ unsigned_abs (int_rem_euclid a (pos b))
rest_is u r a d b f g h e q v = v ∙ ap unsigned_abs (read r h ∙ q ∙ ap₂ int_rem_euclid (read a f) (read d g ∙ e))

whole_is : (c : goal.After-cmp) → c.div_euclid-whole.result ≡ int_div_euclid c.args.a (pos c.args.b)
whole_is c = quotient_is c.div_euclid-whole.result c.args.a c.from.result c.args.b (search rules)
    (search rules) c.from.ensures c.div_euclid-whole.ensures

other_whole_is : (c : goal.After-cmp) → c.div_euclid-other_whole.result ≡ int_div_euclid c.args.c (pos c.args.d)
other_whole_is c = quotient_is c.div_euclid-other_whole.result c.args.c c.from-2.result c.args.d (search rules)
    (search rules) c.from-2.ensures c.div_euclid-other_whole.ensures

pub returns-then-whole-other_whole : goal.returns-then-whole-other_whole
returns-then-whole-other_whole c =
    let f : FitsSigned w128 c.div_euclid-whole.result = search rules in
    let g : FitsSigned w128 c.div_euclid-other_whole.result = search rules in
    by_whole c.args.a c.args.c c.args.b c.args.d c.requires.left c.requires.right
    (λ e. c.if-whole-other_whole.true (ap (of_z w128) (whole_is c ∙ e ∙ sym (other_whole_is c))))
    c.cmp.result (c.cmp.ensures ∙ ap₂ int_cmp (read c.div_euclid-whole.result f ∙ whole_is c)
    (read c.div_euclid-other_whole.result g ∙ other_whole_is c))

pub returns : goal.returns
returns c =
    let f : FitsSigned w128 c.div_euclid-whole.result = search rules in
    let g : FitsSigned w128 c.div_euclid-other_whole.result = search rules in
    let p : c.div_euclid-whole.result ≡ int_div_euclid c.args.a (pos c.args.b) =
    quotient_is c.div_euclid-whole.result c.args.a c.from.result c.args.b (search rules)
    (search rules) c.from.ensures c.div_euclid-whole.ensures in
    let q : c.div_euclid-other_whole.result ≡ int_div_euclid c.args.c (pos c.args.d) =
    quotient_is c.div_euclid-other_whole.result c.args.c c.from-2.result c.args.d (search rules)
    (search rules) c.from-2.ensures c.div_euclid-other_whole.ensures in
    by_rest c.args.a c.args.c c.args.b c.args.d c.requires.left c.requires.right
    (sym p ∙ sym (read c.div_euclid-whole.result f) ∙ ap (to_z w128) c.if-whole-other_whole.false ∙ read c.div_euclid-other_whole.result g ∙ q)
    c.cmp-2.result
    (c.cmp-2.ensures ∙ ap₂ nat_cmp
    (ap₂ (λ m n. m * n) (rest_is c.unsigned_abs.result c.rem_euclid.result c.args.a c.from-3.result c.args.b (search rules) (search rules)
    (search rules) c.from-3.ensures c.rem_euclid.ensures.value c.unsigned_abs.ensures.value) c.from-4.ensures)
    (ap₂ (λ m n. m * n) (rest_is c.unsigned_abs-2.result c.rem_euclid-2.result c.args.c c.from-5.result c.args.d (search rules) (search rules)
    (search rules) c.from-5.ensures c.rem_euclid-2.ensures.value c.unsigned_abs-2.ensures.value) c.from-6.ensures))
