-- Schur's lemma over each order.
use Rattle.irr_number.proofs.NumberField.{number_field}
use Rattle.irr_theory.proofs.Schur.{simple-irreducible, irreducible-equivalent}
use Rattle.irr_char.proofs.laws.simple_representations.Goals as goal

pub returns : goal.returns
returns c = record {
  irreducible = λ h T M v p d A simple. simple-irreducible (number_field M p) A simple;
  equivalent = λ h T M v p a b A B simple other positive x f i j n.
      irreducible-equivalent (number_field M p) A B (simple-irreducible (number_field M p) A simple) positive other x f i j n;
}
