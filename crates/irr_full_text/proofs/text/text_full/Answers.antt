-- The parts of the text.
use Rattle.std.proofs.Common.{◌≡◌, ◌∙◌, sym, ap, subst, ◌<◌, ℕ, List, ◌++◌, length, map, rules}
use Rattle.std.specs.Prelude.{codes}
use Rattle.std.specs.Fmt.{decimal}
use Rattle.irr_text.specs.ReportText.{pieces}
use Rattle.irr_seitz.specs.OperationMeaning.{operation}
use Rattle.irr_seitz.specs.declared.op.Op.{Op}
use Rattle.irr_close.proofs.Bareness.{first_of}
use Rattle.irr_little.proofs.Spaces.{form_of}
use Rattle.irr_little.specs.declared.arms.Arm.{Arm}
use Rattle.irr_report.specs.Printed.{numbered}
use Rattle.irr_full_text.specs.Lines.{AreInList, star_text, generator_text}
use Rattle.irr_full_text.specs.Reading.{Readings}
use Rattle.irr_full_text.proofs.Contents.{some_arms, arms_in_list, text_is, readings_of}
use Rattle.irr_full_text.proofs.Translations.{operations_printable}
use Rattle.irr_full_text.proofs.text.text_full.Goals as goal

pub star_lines-requires-clause-some : goal.star_lines-requires-clause-some
star_lines-requires-clause-some g c = subst (λ (xs : List Arm). 0 < length xs) (sym c.deref.ensures.value)
    (some_arms c.args.group.now c.args.star.now.arms.items c.args.t.now c.requires.1 c.requires.5)

pub star_lines-requires-clause-numbers : goal.star_lines-requires-clause-numbers
star_lines-requires-clause-numbers g c = subst (AreInList c.args.group.now.ops.items) (sym c.deref.ensures.value)
    (arms_in_list c.args.group.now c.args.star.now.arms.items c.args.t.now c.requires.1 c.requires.5)

pub push_fulls-requires : goal.push_fulls-requires
push_fulls-requires g c =
    let group = c.args.group.now in
    let n = c.in_ok-order.order.n in
    let gens = c.in_ok-gens.gens.items in
    subst (λ (xs : List Op). Readings n c.ops.result.now xs c.args.fulls.now) (sym c.deref-3.ensures.value)
    (subst (λ (xs : List Op). Readings n xs gens c.args.fulls.now) (sym c.ops.ensures.list)
    (readings_of group c.args.star.now.arms.items c.args.t.now c.requires.1 c.requires.5 c.requires.2 c.requires.3
    c.requires.4 c.args.fulls.now c.requires.6
    n (c.in_ok-order.ensures ∙ c.order.ensures.order) gens (operations_printable group) c.in_ok-gens.ensures.printable))

pub returns : goal.returns
returns g c = λ k U v L A is are.
    let group = c.args.group.now in
    let arms = c.args.star.now.arms.items in
    let n = c.in_ok-order.order.n in
    let gens = c.in_ok-gens.gens.items in
    let d : Op = first_of group.ops.items (form_of group).nonempty in
    let a : Arm = first_of arms (some_arms group arms c.args.t.now U is) in
    let star = c.in_ok-text.text.items in
    let begun = c.extend_from_slice.new.self.items in
    let listed = c.push_generators.new.text.items in
    let counted = c.extend_from_slice-2.new.self.items in
    let filled = c.push_fulls.new.text.items in
    let count : c.len-count.result ≡ length gens = (let l = c.len-count.ensures in search rules) in
    let told = subst (λ (xs : List Op). (e : Readings n group.ops.items xs c.args.fulls.now) → filled ≡ counted
    ++ pieces e.count e.text) c.deref-3.ensures.value
    (subst (λ (xs : List Op). (e : Readings n xs c.deref-3.result.now c.args.fulls.now) → filled ≡ counted
    ++ pieces e.count e.text) c.ops.ensures.list
    c.in_ok-push_fulls.ensures) in
    record {
      generators = map operation gens;
      are_generators = c.in_ok-gens.ensures.generators U.count U.canonical is.count is.canonical;
      is_text = text_is group arms c.args.t.now U is gens L A d a c.order-2.result (length c.args.fulls.now) star begun
          listed counted filled
          c.extend_from_slice-3.new.self.items (c.order-2.ensures.order ∙ is.order) are.count
          (c.in_ok-text.ensures d a ∙ ap (λ (xs : List Arm). star_text group.ops.items xs c.order-2.result d a)
          c.deref.ensures.value)
          (c.in_ok-extend_from_slice.ensures.items ∙ ap (λ (t : List ℕ). star ++ t) (c.as_bytes.ensures.value
          ∙ c.in_ok-format.ensures.ok
          ∙ ap (λ (m : ℕ). codes "gens " ++ (decimal m ++ codes "\n")) count))
          (c.in_ok-push_generators.ensures ∙ ap (λ (xs : List Op). begun ++ numbered generator_text 1 xs)
          c.deref-2.ensures.value)
          (c.in_ok-extend_from_slice-2.ensures.items ∙ ap (λ (t : List ℕ). listed ++ t) (c.as_bytes-2.ensures.value
          ∙ c.in_ok-format-2.ensures.ok))
          (told (readings_of group arms c.args.t.now U is v L A c.args.fulls.now are n (c.in_ok-order.ensures
          ∙ c.order.ensures.order) gens
          (operations_printable group) c.in_ok-gens.ensures.printable))
          c.in_ok-extend_from_slice-3.ensures.items;
    }
