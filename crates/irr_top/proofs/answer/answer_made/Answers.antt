-- How a request ends that has a made input.
use Rattle.std.proofs.Common.{refl, subst, List, ℕ}
use Rattle.irr_kvec.specs.WaveMeaning.{wave_vector}
use Rattle.irr_top.specs.Asked.{AsksOfBytes}
use Rattle.irr_top.specs.Outcome.{Serves}
use Rattle.irr_top.specs.Outcome.Serves.{without_memory}
use Rattle.irr_top.proofs.MadeRequests.{made_request}
use Rattle.irr_top.proofs.Outcomes.{serves_more}
use Rattle.irr_top.proofs.answer.answer_made.Goals as goal

pub returns-in-Ok : goal.returns-in-Ok
returns-in-Ok g c = λ bytes. serves_more (λ s text a. made_request c.args.request.now bytes c.args.number (wave_vector c.in-Ok.made.wave)
    c.requires.made c.in-Ok.ensures a)
    (subst (λ (input : List ℕ). Serves (AsksOfBytes c.args.request.now input) (g.O.Sink.view c.args.sink.now)
    (g.O.Sink.view c.answer_bytes.new.sink) c.answer_bytes.result) c.deref.ensures.value c.answer_bytes.ensures)

pub returns-in-Err : goal.returns-in-Err
returns-in-Err g c = λ bytes. without_memory refl
