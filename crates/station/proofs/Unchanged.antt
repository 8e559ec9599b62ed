-- What leaves all as it was, by a name that code can cite.
use Rattle.station.proofs.Laws.{holding-same}

pub ruleset unchanged = (holding-same)
