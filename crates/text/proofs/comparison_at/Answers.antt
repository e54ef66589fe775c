-- `text::comparison_at` meets its contract. Three tokens, each of the sort that the grammar asks (`Comparing`).
-- Assumes nothing.
use Rattle.text.proofs.Comparing.{first_fails, mid_inside, second_fails, late_inside, third_fails, third_item}
use Rattle.text.proofs.Comparing.{third_constant}
use Rattle.text.proofs.comparison_at.Goals as goal

pub returns-in_default : goal.returns-in_default
returns-in_default c = first_fails _ _ c.token_at.ensures c.in_default.not-ItemAt

pub token_at-requires-2 : goal.token_at-requires-2
token_at-requires-2 c = mid_inside _ _ _ _ _ c.in-ItemAt.ensures

pub returns-in_default-token_at : goal.returns-in_default-token_at
returns-in_default-token_at c =
    second_fails _ _ _ _ _ c.in-ItemAt.ensures c.token_at-2.ensures c.in_default-token_at.not-OperatorAt

pub token_at-requires-3 : goal.token_at-requires-3
token_at-requires-3 c = late_inside _ _ _ _ _ c.in-ItemAt.ensures _ _ c.in-OperatorAt.ensures

pub returns-in-ItemAt-token_at : goal.returns-in-ItemAt-token_at
returns-in-ItemAt-token_at c =
    third_item _ _ _ _ _ c.in-ItemAt.ensures _ _ c.in-OperatorAt.ensures _ _ _ c.in-ItemAt-token_at.ensures

pub returns-in-NumberAt : goal.returns-in-NumberAt
returns-in-NumberAt c =
    third_constant _ _ _ _ _ c.in-ItemAt.ensures _ _ c.in-OperatorAt.ensures _ _ _ c.in-NumberAt.ensures

pub returns-in_default-token_at-2 : goal.returns-in_default-token_at-2
returns-in_default-token_at-2 c =
    third_fails _ _ _ _ _ c.in-ItemAt.ensures _ _ c.in-OperatorAt.ensures c.token_at-3.ensures
    c.in_default-token_at-2.not-ItemAt c.in_default-token_at-2.not-NumberAt
