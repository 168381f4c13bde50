use Rattle.event_reach.proofs.row_of.Goals as goal

pub column_of-requires : goal.column_of-requires
column_of-requires c = rw c.in-Up.is at c.requires

pub column_of-requires-in-Down : goal.column_of-requires-in-Down
column_of-requires-in-Down c = rw c.in-Down.is at c.requires

pub named_row-requires : goal.named_row-requires
named_row-requires c = rw c.in-Traffic.is at c.requires

pub column_of-requires-in-Lost : goal.column_of-requires-in-Lost
column_of-requires-in-Lost c = rw c.in-Lost.is at c.requires

pub owner_at-requires : goal.owner_at-requires
owner_at-requires c = rw c.in-LinkUp.is at c.requires

pub owner_at-requires-in-LinkDown : goal.owner_at-requires-in-LinkDown
owner_at-requires-in-LinkDown c = rw c.in-LinkDown.is at c.requires

pub returns-in-Up : goal.returns-in-Up
returns-in-Up c = rw c.in-Up.is c.column_of.ensures

pub returns-in-Down : goal.returns-in-Down
returns-in-Down c = rw c.in-Down.is c.column_of-in-Down.ensures

pub returns-in-Traffic : goal.returns-in-Traffic
returns-in-Traffic c = rw c.in-Traffic.is c.named_row.ensures

pub returns-in-Other : goal.returns-in-Other
returns-in-Other c = rw c.in-Other.is c.other_row.ensures

pub returns-in-Lost : goal.returns-in-Lost
returns-in-Lost c = rw c.in-Lost.is c.column_of-in-Lost.ensures

pub returns-in-Recovery : goal.returns-in-Recovery
returns-in-Recovery c = rw c.in-Recovery.is c.only.ensures

pub returns-in-LinkUp : goal.returns-in-LinkUp
returns-in-LinkUp c = rw c.in-LinkUp.is c.owner_at.ensures

pub returns-in-LinkDown : goal.returns-in-LinkDown
returns-in-LinkDown c = rw c.in-LinkDown.is c.owner_at-in-LinkDown.ensures

pub returns-in-LinkMessage : goal.returns-in-LinkMessage
returns-in-LinkMessage c = rw c.in-LinkMessage.is c.owner_of.ensures
