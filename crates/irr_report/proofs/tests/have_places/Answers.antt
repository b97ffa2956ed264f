-- One more representation, and all of them.
use Rattle.std.proofs.Common.{◌≡◌, ◌<◌, ◌+◌, ℕ, List, All, length, get_or, take, sym, subst, rules}
use Rattle.std.proofs.lemmas.List.{take_all, take_more}
use Rattle.std.proofs.lemmas.List.Elements.{All-push}
use Rattle.irr_report.specs.Content.{HasPlaces}
use Rattle.irr_report.proofs.tests.have_places.Goals as goal

one_more : {A : Type 0} (P : A → Type 0) (xs : List A) (i : ℕ) (x : A) → i < length xs → x ≡ get_or xs i x → All P (take i xs) → P x → All P (take (i + 1) xs)
one_more P xs i x lt is all p = subst (All P) (sym (take_more xs i x lt)) (All-push P (take i xs) (get_or xs i x) all (subst P is p))

pub loop-t-preserved : goal.loop-t-preserved
loop-t-preserved g c = let held : HasPlaces c.args.order c.args.places c.t-item.result = search rules in
    one_more (HasPlaces c.args.order c.args.places) c.args.reps.now c.loop-t.t-index c.t-item.result c.loop-t-test.true c.t-item.is c.loop-t.invariant held

pub returns : goal.returns
returns g c = λ t. subst (All (HasPlaces c.args.order c.args.places)) (take_all c.loop-t.t-index c.args.reps.now c.loop-t-test.false) c.loop-t.invariant
