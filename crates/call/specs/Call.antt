-- What words ask for, and the status that a program ends with.
use Rattle.std.specs.Prelude.{◌≡◌, ℕ, Bool, ◌||◌, List, [], ◌∷◌, ◌++◌, ◌⊎◌, codes, bytes_eq, String, string_bytes}
use Rattle.std.specs.Prelude.{Option, Some, None, Result, Ok, Err, IsErr, MatchBool, MatchResult, IfOk}
use Rattle.std.specs.declared.process.ExitCode.{ExitCode}
use Rattle.std.specs.Process.{exit_status}
use Rattle.std.specs.declared.alloc.Global.{Global}
use Rattle.call.specs.declared.Asked.{Asked}
use Rattle.call.specs.declared.Asked.TheVariants.{Help, For, Unclear}

-- whether a word asks how the program is called
abbrev pub asks_help : List ℕ → Bool
asks_help word = bytes_eq word (codes "--help") || bytes_eq word (codes "-h")

-- why it is not clear what was asked for
abbrev pub reason : {T : Type 0} → Asked T → Option (List ℕ)
reason Help = None
reason (For it) = None
reason (Unclear why) = Some (string_bytes why)

-- so much is expected, and a word more is too much
abbrev pub too_much : List ℕ → List ℕ → List ℕ
too_much expected more = expected ++ (codes " is expected, and `" ++ (more ++ codes "` is too much"))

-- what words are read as: none, or the one, as it is meant, but for the usage; two or more as too much
abbrev pub Reads :
    {T E : Type 0} → (Option (String Global) → Result (Asked T) E → Type 0)
    → List ℕ → List (String Global) → Result (Asked T) E → Type 0
Reads meant expected [] read = meant None read
Reads meant expected (word ∷ []) read = MatchBool (asks_help (string_bytes word)) (read ≡ Ok Help) (meant (Some word) read)
Reads meant expected (word ∷ more ∷ rest) read = IfOk read (λ asked. reason asked ≡ Some (too_much expected (string_bytes more)))

-- what the words of a call are read as, if they can be read: no contract can say which words it had, so it speaks of some
abbrev pub ReadsSome :
    {T E : Type 0} → (Option (String Global) → Result (Asked T) E → Type 0) → List ℕ → Result (Asked T) E → Type 0
ReadsSome meant expected read = IsErr read ⊎ ((words : List (String Global)) × Reads meant expected words read)

-- the program ends well, with status 0, only if the fact holds
abbrev pub OnSuccess : {E : Type 0} → Result ExitCode E → Type 0 → Type 0
OnSuccess ended P = IfOk ended (λ code. exit_status code ≡ 0 → P)

-- the status of the program is 1
abbrev pub Fails : {E : Type 0} → Result ExitCode E → Type 0
Fails ended = IfOk ended (λ code. exit_status code ≡ 1)

-- how a program ends: well once it has said how it is called, as is told where it was asked for something, and with status 1
-- where it is not clear for what, or the words could not be read
abbrev pub Ends : {T E F : Type 0} → (T → Result ExitCode F → Type 0) → Result (Asked T) E → Result ExitCode F → Type 0
Ends told (Ok Help) ended = IfOk ended (λ code. exit_status code ≡ 0)
Ends told (Ok (For it)) ended = told it ended
Ends told (Ok (Unclear why)) ended = Fails ended
Ends told (Err why) ended = Fails ended

-- what its process ends with: the status of a program that ends so, or 1 where the program has none
abbrev pub EndsWith : {T E F : Type 0} → (T → Result ExitCode F → Type 0) → Result (Asked T) E → ExitCode → Type 0
EndsWith {T} {E} {F} told asked code =
    (ended : Result ExitCode F) × Ends told asked ended × MatchResult ended (λ own. code ≡ own) (λ _. exit_status code ≡ 1)
