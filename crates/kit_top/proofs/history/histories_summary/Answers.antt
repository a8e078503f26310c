use Rattle.kit_top.proofs.history.histories_summary.Goals as goal

pub summary-requires : goal.summary-requires
summary-requires c = c.in_ok-history.ensures.vars
