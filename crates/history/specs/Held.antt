-- The session that a line of the history leaves. A preview leaves the one that was held (document 02, T-08).
-- Assumes nothing.
use Rattle.std.specs.Prelude.{ℕ, true, false}
use Rattle.sessions.specs.Session.{session_reported}
use Rattle.sessions.specs.declared.Session.{Session}
use Rattle.history.specs.declared.Asked.{Asked}
use Rattle.history.specs.declared.Asked.TheVariants.{Fail, Recover, Preview}

-- what a line asks, of p, leaves of the session s
abbrev pub held_after : Session → Asked → ℕ → Session
held_after s Fail p = session_reported s true p
held_after s Recover p = session_reported s false p
held_after s Preview p = s
