-- The images, and the arms.
use Rattle.irr_subduce.proofs.meetings.meeting_at.Goals as goal

pub returns : goal.returns
returns c = record {
  images = c.in_ok-images.ensures;
  arms = c.in_ok-arms.ensures c.args.sub.now.group c.requires.reduced c.requires.waves;
}
