use Rattle.laws.specs.Inner.Choice.{choices}
use Rattle.send_message.specs.Inner.Form.{form_of}
use Rattle.send_message.proofs.form_of.Goals as goal

pub returns-then-passed : goal.returns-then-passed
unfolding form_of
returns-then-passed c = search choices depth 30

pub returns-then-ct-eq-MGMT_ERROR : goal.returns-then-ct-eq-MGMT_ERROR
unfolding form_of
returns-then-ct-eq-MGMT_ERROR c = let e = rw c.then_some.ensures at c.say.ensures in search choices depth 30

pub returns-then-ct-eq-MGMT_NOTIFY : goal.returns-then-ct-eq-MGMT_NOTIFY
unfolding form_of
returns-then-ct-eq-MGMT_NOTIFY c = search choices depth 30

pub returns-then-ct : goal.returns-then-ct
unfolding form_of
returns-then-ct c = search choices depth 30

pub returns-then-ct-eq-BEAT_ACK : goal.returns-then-ct-eq-BEAT_ACK
unfolding form_of
returns-then-ct-eq-BEAT_ACK c = search choices depth 30

pub returns-then-ct-2 : goal.returns-then-ct-2
unfolding form_of
returns-then-ct-2 c = search choices depth 30

pub returns-then-ct-eq-USER_DATA : goal.returns-then-ct-eq-USER_DATA
unfolding form_of
returns-then-ct-eq-USER_DATA c = search choices depth 30

pub returns : goal.returns
unfolding form_of
returns c = let e = rw c.then_some-2.ensures at c.say-2.ensures in search choices depth 30
