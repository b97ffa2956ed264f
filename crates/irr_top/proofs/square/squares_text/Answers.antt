-- The text at a reduced wave vector.
use Rattle.std.proofs.Common.{◌≡◌, subst₂, List, map}
use Rattle.irr_seitz.specs.PhaseMeaning.{sign_of}
use Rattle.irr_kvec.specs.WaveMeaning.{wave_vector}
use Rattle.irr_close.specs.StandsFor.{stands_for}
use Rattle.irr_power.specs.Squares.{square_entry}
use Rattle.irr_power.specs.SquareText.{square_text}
use Rattle.irr_power.specs.declared.parts.SquareParts.{SquareParts}
use Rattle.irr_top.proofs.SquareTexts.{not_refused, square_text_at}
use Rattle.irr_top.proofs.square.squares_text.Goals as goal

pub unreachable-requires : goal.unreachable-requires
unreachable-requires c =
    let r = rw c.in-Err-OrderTooLarge.field-0-is at c.in-Err-OrderTooLarge.ensures.refused in
    absurd (not_refused (stands_for c.args.group.now) (wave_vector c.args.wave.now) c.args.order c.requires.order c.requires.within r)

pub returns-in_ok-text-in-Ok : goal.returns-in_ok-text-in-Ok
returns-in_ok-text-in-Ok c = square_text_at c.args.group.now (wave_vector c.args.wave.now) c.args.order
    c.requires.reduced c.requires.order c.in-Ok.squares.items c.in-Ok.ensures.squares c.in_ok-text-in-Ok.text.items
    (subst₂ (λ (ps : List SquareParts) p. c.in_ok-text-in-Ok.text.items ≡ square_text 1 (sign_of p) record {
      wave = wave_vector c.args.wave.now;
      order = c.args.order;
      squares = map square_entry ps;
    }) c.deref.ensures.value c.phase.ensures c.in_ok-text-in-Ok.ensures)
