-- The messages that the rules name, each as an action has it: its class times 256 plus its type (Rules 2.10,
-- 8.1). And the status that a Notify tells (Rule 8.5).
-- Assumes nothing.
use Rattle.std.specs.Prelude.{ℕ, ◌+◌, ◌*◌}

abbrev pub message : ℕ → ℕ → ℕ
message class type = class * 256 + type

-- class 0: management
abbrev pub mgmt_error : ℕ
mgmt_error = message 0 0

abbrev pub mgmt_notify : ℕ
mgmt_notify = message 0 1

-- class 3: the ASP's state
abbrev pub asp_up : ℕ
asp_up = message 3 1

abbrev pub asp_down : ℕ
asp_down = message 3 2

abbrev pub beat : ℕ
beat = message 3 3

abbrev pub asp_up_ack : ℕ
asp_up_ack = message 3 4

abbrev pub asp_down_ack : ℕ
asp_down_ack = message 3 5

abbrev pub beat_ack : ℕ
beat_ack = message 3 6

-- class 4: the ASP's traffic
abbrev pub asp_active : ℕ
asp_active = message 4 1

abbrev pub asp_inactive : ℕ
asp_inactive = message 4 2

abbrev pub asp_active_ack : ℕ
asp_active_ack = message 4 3

abbrev pub asp_inactive_ack : ℕ
asp_inactive_ack = message 4 4

-- class 6: the link
abbrev pub user_data : ℕ
user_data = message 6 1

abbrev pub establish_request : ℕ
establish_request = message 6 2

abbrev pub establish_confirm : ℕ
establish_confirm = message 6 3

abbrev pub release_request : ℕ
release_request = message 6 4

abbrev pub release_confirm : ℕ
release_confirm = message 6 5

abbrev pub release_indication : ℕ
release_indication = message 6 6

abbrev pub state_request : ℕ
state_request = message 6 7

abbrev pub retrieval_request : ℕ
retrieval_request = message 6 10

abbrev pub data_ack : ℕ
data_ack = message 6 15

-- what a Notify says: a type of status, and the information of that type
abbrev pub status : ℕ → ℕ → ℕ
status type information = type * 65536 + information

-- the new state of an AS
abbrev pub as_state : ℕ → ℕ
as_state state = status 1 state

-- another ASP has become active in its place
abbrev pub other_active : ℕ
other_active = status 2 2
