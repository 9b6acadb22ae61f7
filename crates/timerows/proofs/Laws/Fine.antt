-- Accepted words are so whatever the room.
use Rattle.std.proofs.Common.{List, ℕ, ℤ, arith}
use Rattle.rules.specs.Times.Words.{AcceptedTimes}
use Rattle.timerows.specs.Judged.{Fine}

pub fine_of : {ws : List ℤ} {room : ℕ} → AcceptedTimes ws room → Fine ws
fine_of A = record {
  enough = A.enough;
  n-least = A.n-least;
  n-most = A.n-most;
  m-least = A.m-least;
  m-most = A.m-most;
  exact = A.exact;
  from-least = A.from-least;
  from-most = A.from-most;
  to-least = A.to-least;
  to-most = A.to-most;
  strict-least = A.strict-least;
  strict-most = A.strict-most;
  lengths = A.lengths;
  roomy = omega arith;
}
