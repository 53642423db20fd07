use Rattle.formats.proofs.+read_groups.Given as goal

-- the groups that are allowed
abbrev pub decreases-read_groups : goal.decreases-read_groups
decreases-read_groups l = l.groups
