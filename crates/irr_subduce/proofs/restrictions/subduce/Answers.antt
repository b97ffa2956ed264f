-- The restrictions over the order of the wave vector.
use Rattle.irr_subduce.proofs.restrictions.subduce.Goals as goal

pub returns-clause-restrictions : goal.returns-clause-restrictions
returns-clause-restrictions g c = record {
  order = c.in_ok-n.n;
  is_order = c.in_ok-n.ensures.order;
  within = c.in_ok-n.ensures.within;
  image = c.requires.sub.1.image;
  subgroup = c.requires.sub.1.subgroup;
  restrictions = c.in_ok-reps.ensures c.requires.sub.0 c.requires.sub.1;
}
