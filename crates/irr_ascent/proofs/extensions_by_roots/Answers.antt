-- Extensions by roots of 1.
use Rattle.irr_ascent.proofs.Members.{extensions_over, multiples_extend, multiple_powers, multiple_traces, extension_by_matrix}
use Rattle.irr_ascent.proofs.extensions_by_roots.Goals as goal

pub returns : goal.returns
returns g c = record {
  list = λ T H Q L turn l u roots E f e h x. extensions_over g.N.InField.field Q L f turn l e u h roots E x;
  exists = λ T H Q d D u roots a h. multiples_extend Q D u h roots a;
  powers = λ T H Q d D u z A B a b x. (multiple_powers Q D u z A B a b x, multiple_traces Q D u z A B a b x);
  by_matrix = λ T H Q d D u E h s. extension_by_matrix Q D u h E s;
}
