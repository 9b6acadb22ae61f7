-- Two results that a promise of this crate's public functions allows are equal: NAME-only for each.
-- The contracts themselves are compared: κs are lifetimes, x the arguments, e what lent words hold at the exit.
use mathlib.Core.Path.{◌≡◌, sym, ◌∙◌, ap}
use Rattle.refusals.proofs.Refused.{told-only}
use Rattle.timerows.proofs.judge.judge.Reads as judge
use Rattle.timerows.proofs.rows.TimeRows.n.Reads as n
use Rattle.timerows.proofs.rows.TimeRows.m.Reads as m
use Rattle.timerows.proofs.rows.TimeRows.tail.Reads as tail
use Rattle.timerows.proofs.rows.TimeRows.head.Reads as head
use Rattle.timerows.proofs.rows.TimeRows.strict.Reads as strict
use Rattle.timerows.proofs.rows.TimeRows.span.Reads as span
use Rattle.timerows.proofs.rows.TimeRows.size.Reads as size

pub judge-only : (κs : _) (x : _) (a b : _) (e : _) → judge.Post κs x a e → judge.Post κs x b e → a ≡ b
judge-only κs x a b e h k = told-only a b (h ∙ sym k)

pub n-only : (κs : _) (x : _) (a b : _) (e : _) → n.Post κs x a e → n.Post κs x b e → a ≡ b
n-only κs x a b e h k = h ∙ sym k

pub m-only : (κs : _) (x : _) (a b : _) (e : _) → m.Post κs x a e → m.Post κs x b e → a ≡ b
m-only κs x a b e h k = h ∙ sym k

pub tail-only : (κs : _) (x : _) (a b : _) (e : _) → tail.Post κs x a e → tail.Post κs x b e → a ≡ b
tail-only κs x a b e h k = h ∙ sym k

pub head-only : (κs : _) (x : _) (a b : _) (e : _) → head.Post κs x a e → head.Post κs x b e → a ≡ b
head-only κs x a b e h k = h ∙ sym k

pub strict-only : (κs : _) (x : _) (a b : _) (e : _) → strict.Post κs x a e → strict.Post κs x b e → a ≡ b
strict-only κs x a b e h k = h ∙ sym k

pub span-only : (κs : _) (x : _) (a b : _) (e : _) → span.Post κs x a e → span.Post κs x b e → a ≡ b
span-only κs x a b e h k = h ∙ sym k

pub size-only : (κs : _) (x : _) (a b : _) (e : _) → size.Post κs x a e → size.Post κs x b e → a ≡ b
size-only κs x a b e h k = ap (λ z. record { 0 = z }) (h ∙ sym k)
