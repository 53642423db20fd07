-- The directions of a session are a plan, and plans serve.
-- Assumes nothing.
use Rattle.repair.proofs.InUse.{plans_serve}
use Rattle.sessions.specs.Session.{session_started}
use Rattle.reports.specs.Theorems.{after_all}
use Rattle.reports.specs.Serving.{used_in, SessionsServe}
use Rattle.reports.proofs.Sound.{sessions}

pub sessions_serve : SessionsServe
sessions_serve n m grid directions rs places across down h lent =
    plans_serve (used_in (after_all (session_started n m grid directions) rs) places across down)
    (sessions.reports_sound n m grid directions rs h).passes lent
