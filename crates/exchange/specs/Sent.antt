-- What is answered, by the number of the refusal.
use Rattle.std.specs.Prelude.{List, ℕ, zero, suc, length}
use Rattle.exchange.specs.declared.Exchanged.{Exchanged}

unfoldable pub sent_by : ℕ → List ℕ → Exchanged
sent_by zero text = record { refused = 0; count = length text }
sent_by (suc k) text = record { refused = suc k; count = 0 }
