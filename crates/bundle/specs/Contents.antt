-- What the reader tells, by its number.
use Rattle.std.specs.Prelude.{List, ℕ, ℤ}
use Rattle.rules.specs.Bundle.File.{count_told, edition_told}
use Rattle.bundle.specs.declared.Contents.{Contents}

-- refused with a number, edition and count are 0
unfoldable pub contents_told : ℕ → List ℤ → Contents
contents_told number ws =
    record { refused = number; edition = edition_told number ws; bodies = count_told number ws }
