-- With the element outside, the subgroup is larger; where that is the whole, it was a largest.
use Rattle.std.proofs.Common.{◌≡◌, ◌↔◌, ℕ, sym, ◌∙◌, subst, length, Contains}
use Rattle.irr_algebra.specs.Fin.{Fin, to_nat}
use Rattle.irr_rep.specs.Twisted.{phase_table, place_count}
use Rattle.irr_chain.specs.Marks.{IsMarked, Marked}
use Rattle.irr_chain.specs.Quotient.{Cover}
use Rattle.irr_chain.proofs.Markings.{unmarked-less}
use Rattle.irr_chain.proofs.Levels.{covers_at, level_generated, level_normal, wider_has, wider_own, wider_quotient}
use Rattle.irr_chain.proofs.level.widest.Goals as goal

pub loop-inner-smaller : goal.loop-inner-smaller
loop-inner-smaller c =
    let t = c.args.t.now in
    let T = phase_table t in
    let members = c.args.members.now in
    let inner = c.loop-inner.inner.items in
    let wider = c.in_ok-wider.wider.items in
    let size : length inner ≡ place_count t = sym c.loop-inner.inner.ok.0 ∙ c.loop-inner.invariant.count in
    let covers : (a i : Fin (place_count t)) → to_nat a ≡ c.loop-inner.g → Marked wider i ↔ Cover T (Marked inner) c.args.p a i =
    covers_at T c.args.p c.loop-inner.g c.deref.result.now inner wider c.deref.ensures.value c.in_ok-wider.ensures.cosets in
    unmarked-less inner wider c.loop-inner.g (size ∙ sym (sym c.in_ok-wider.wider.ok.0 ∙ c.in_ok-wider.ensures.count))
    (wider_has T members c.requires.subgroup c.args.p inner size c.loop-inner.invariant.quotient c.loop-inner.g c.loop-inner.invariant.member c.requires.two_or_three wider covers)
    c.loop-inner.invariant.outside
    (wider_own T members c.requires.subgroup c.args.p inner size c.loop-inner.invariant.quotient c.loop-inner.g c.loop-inner.invariant.member c.requires.two_or_three wider covers)

pub loop-inner-preserved : goal.loop-inner-preserved
loop-inner-preserved c =
    let t = c.args.t.now in
    let T = phase_table t in
    let members = c.args.members.now in
    let inner = c.loop-inner.inner.items in
    let wider = c.in_ok-wider.wider.items in
    let size : length inner ≡ place_count t = sym c.loop-inner.inner.ok.0 ∙ c.loop-inner.invariant.count in
    let covers : (a i : Fin (place_count t)) → to_nat a ≡ c.loop-inner.g → Marked wider i ↔ Cover T (Marked inner) c.args.p a i =
    covers_at T c.args.p c.loop-inner.g c.deref.result.now inner wider c.deref.ensures.value c.in_ok-wider.ensures.cosets in
    record {
      count = c.in_ok-wider.ensures.count;
      quotient = wider_quotient T members c.requires.subgroup c.args.p inner size c.loop-inner.invariant.quotient c.loop-inner.g c.loop-inner.invariant.member
          c.requires.two_or_three wider covers;
      member = c.in-Some.ensures.0;
      outside = λ m. c.in-Some.ensures.1 (subst (λ v. IsMarked v c.in-Some.next) (sym c.deref-in-loop-inner.ensures.value) m);
    }

pub returns-in-None : goal.returns-in-None
returns-in-None c =
    let t = c.args.t.now in
    let T = phase_table t in
    let members = c.args.members.now in
    let inner = c.loop-inner.inner.items in
    let wider = c.in_ok-wider.wider.items in
    let list = c.in_ok-members-in-None.members.items in
    let size : length inner ≡ place_count t = sym c.loop-inner.inner.ok.0 ∙ c.loop-inner.invariant.count in
    let covers : (a i : Fin (place_count t)) → to_nat a ≡ c.loop-inner.g → Marked wider i ↔ Cover T (Marked inner) c.args.p a i =
    covers_at T c.args.p c.loop-inner.g c.deref.result.now inner wider c.deref.ensures.value c.in_ok-wider.ensures.cosets in
    let all : (k : ℕ) → Contains members k → IsMarked wider k =
    subst (λ v. (k : ℕ) → Contains members k → IsMarked v k) c.deref-in-loop-inner.ensures.value c.in-None.ensures in
    let same : (k : ℕ) → Contains list k ↔ IsMarked inner k =
    subst (λ v. (k : ℕ) → Contains list k ↔ IsMarked v k) c.deref-in-None.ensures.value c.in_ok-members-in-None.ensures.members in
    record {
      two_or_three = c.requires.two_or_three;
      increasing = c.in_ok-members-in-None.ensures.increasing;
      normal = level_normal T members c.requires.subgroup c.args.p inner size c.loop-inner.invariant.quotient c.loop-inner.g c.loop-inner.invariant.member
          c.requires.two_or_three wider covers c.loop-inner.invariant.outside all list c.in_ok-members-in-None.ensures.increasing same;
      generated = level_generated T members c.requires.subgroup c.args.p inner size c.loop-inner.invariant.quotient c.loop-inner.g c.loop-inner.invariant.member
          c.requires.two_or_three wider covers c.loop-inner.invariant.outside all list c.in_ok-members-in-None.ensures.increasing same;
    }
