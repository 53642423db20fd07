-- Fewer digits may still come at each call.
use Rattle.listing.proofs.+push_digits.Given as goal

abbrev pub decreases-push_digits : goal.decreases-push_digits
decreases-push_digits l = l.more
