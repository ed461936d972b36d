-- `mishantral_lower_write` meets its contract: it tests the length of the sessions buffer, and returns the answer of `write` as one number.
use Rattle.policy_writing.proofs.Ways.{no-sessions, with-sessions}
use Rattle.policy_writing.proofs.mishantral_lower_write.Goals as goal

pub returns-then-sessions-ne-SESSIONS_WORDS : goal.returns-then-sessions-ne-SESSIONS_WORDS
returns-then-sessions-ne-SESSIONS_WORDS c =
    rw c.from.ensures (no-sessions c.args.policy.now c.args.sessions.now c.args.output.now c.if-sessions-ne-SESSIONS_WORDS.true)

pub returns : goal.returns
returns c =
    with-sessions c.args.policy.now c.args.sessions.now c.args.output.now c.if-sessions-ne-SESSIONS_WORDS.false c.write.ensures c.packed.ensures
