-- What a function that reads answers: what reading gives, unless memory ran out.
use Rattle.std.specs.Prelude.{◌≡◌, Result, Ok, Err}
use Rattle.line_words.specs.declared.fault.TextFault.{TextFault}
use Rattle.line_words.specs.declared.fault.ReadFault.{ReadFault}
use Rattle.line_words.specs.declared.fault.ReadFault.TheVariants.{Text, NoMemory}

-- The failure is that of reading, or says that memory ran out.
abbrev pub Fails : {Y : Type 0} → ReadFault → Result Y TextFault → Type 0
Fails NoMemory read = Unit {0}
Fails (Text fault) read = read ≡ Err fault

-- The answer is what reading gives, unless memory ran out.
abbrev pub Gives : {Y : Type 0} → Result Y ReadFault → Result Y TextFault → Type 0
Gives (Ok y) read = read ≡ Ok y
Gives (Err e) read = Fails e read
