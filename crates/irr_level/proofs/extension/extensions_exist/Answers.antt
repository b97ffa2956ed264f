-- Roots of scalars, and extensions.
use Rattle.irr_number.proofs.NumberField.{number_field}
use Rattle.irr_level.proofs.ScalarRoots.{extension_exists, roots_of_one, scalar_root}
use Rattle.irr_level.proofs.TableLevels.{cycles, table_choice, table_climb}
use Rattle.irr_level.proofs.extension.extensions_exist.Goals as goal

pub returns : goal.returns
returns c = record {
  root = λ h T M v positive H Q small d D l simple u c k n. scalar_root (number_field M positive) Q D l small simple (cycles T M v positive) u c k n;
  extension = λ h T M v positive H Q small d D l simple e. extension_exists (number_field M positive) Q D l small simple (cycles T M v positive) e;
  roots_of_one = λ h T M v positive H Q. roots_of_one (number_field M positive) Q (cycles T M v positive Q.generator);
  choice = λ h T M v positive H Q small L full. table_choice T M v positive Q small L full;
  climb = λ h T M v positive H Q small L full. table_climb T M v positive Q small L full;
}
