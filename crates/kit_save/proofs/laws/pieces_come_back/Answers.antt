use Rattle.kit_save.proofs.Operands.{operand_taken}
use Rattle.kit_save.proofs.Conds.{cond_taken}
use Rattle.kit_save.proofs.Actions.{action_taken}
use Rattle.kit_save.proofs.laws.pieces_come_back.Goals as goal

pub returns-clause-operands : goal.returns-clause-operands
returns-clause-operands c = operand_taken

pub returns-clause-conds : goal.returns-clause-conds
returns-clause-conds c = cond_taken

pub returns-clause-actions : goal.returns-clause-actions
returns-clause-actions c = action_taken
