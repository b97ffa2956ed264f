use Rattle.std.proofs.Common.{codes}
use Rattle.irr_rational.specs.Ratio.{entry}
use Rattle.irr_setting_text.specs.SettingFault.{row_by_row}
use Rattle.irr_setting_text.proofs.SpelledOnce.{fault_once, text_or_fault}
use Rattle.irr_setting_text.proofs.OneSetting.{basis_once, origin_once}
use Rattle.irr_setting_text.proofs.laws.setting_lines_mean_one.Goals as goal

pub returns-clause-basis : goal.returns-clause-basis
returns-clause-basis c = λ line num low den least a b. basis_once line num low den least a b

pub returns-clause-origin : goal.returns-clause-origin
returns-clause-origin c = λ line p q a b. origin_once line p q a b

pub returns-clause-basis_fault : goal.returns-clause-basis_fault
returns-clause-basis_fault c = λ line e f a b. fault_once (codes "basis") 9 100 line e f a b

pub returns-clause-origin_fault : goal.returns-clause-origin_fault
returns-clause-origin_fault c = λ line e f a b. fault_once (codes "origin") 3 1000 line e f a b

pub returns-clause-basis_either : goal.returns-clause-basis_either
returns-clause-basis_either c = λ line num den e a b. text_or_fault (codes "basis") 9 100 line (row_by_row num) den e a b

pub returns-clause-origin_either : goal.returns-clause-origin_either
returns-clause-origin_either c = λ line p e a b. text_or_fault (codes "origin") 3 1000 line (entry p.num) p.den e a b
