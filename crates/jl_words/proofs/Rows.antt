-- Worked rows, by computation.
use Rattle.std.proofs.Common.{◌≡◌, ℕ, List, [], ◌∷◌, refl, map, Option, Some, None}
use Rattle.std.specs.Prelude.{codes}
use Rattle.jl_words.specs.declared.help.Topic.{Topic}
use Rattle.jl_words.specs.declared.help.Topic.TheVariants.{Program, Scan, Sketch, Run, Farm, Report}
use Rattle.jl_words.specs.Help.{help_asked}

-- what words after the program's name ask for help on
abbrev asked : List (List ℕ) → Option Topic
asked words = help_asked (codes "linkd" ∷ words)

of_no_words : map help_asked ([] ∷ (codes "linkd" ∷ []) ∷ (codes "help" ∷ []) ∷ []) ≡ Some Program ∷ Some Program ∷ Some Program ∷ []
of_no_words = refl

-- in front of a subcommand's name, or of another word, or of none
of_help_first : map asked
    (
    (codes "help" ∷ []) ∷ (codes "help" ∷ codes "scan" ∷ []) ∷ (codes "help" ∷ codes "sketch" ∷ []) ∷ (codes "help" ∷ codes "run" ∷ [])
    ∷ (codes "help" ∷ codes "farm" ∷ []) ∷ (codes "help" ∷ codes "report" ∷ []) ∷ (codes "help" ∷ codes "Scan" ∷ [])
    ∷ (codes "help" ∷ codes "run" ∷ codes "--help" ∷ []) ∷ (codes "help" ∷ codes "--" ∷ codes "run" ∷ []) ∷ (codes "helps" ∷ [])
    ∷ []
    )
    ≡ Some Program ∷ Some Scan ∷ Some Sketch ∷ Some Run ∷ Some Farm ∷ Some Report ∷ Some Program ∷ Some Run ∷ Some Program ∷ None ∷ []
of_help_first = refl

-- after one, which `report` takes for a path
of_help_second : map asked
    (
    (codes "scan" ∷ codes "help" ∷ []) ∷ (codes "farm" ∷ codes "help" ∷ codes "x" ∷ []) ∷ (codes "report" ∷ codes "help" ∷ [])
    ∷ (codes "scans" ∷ codes "help" ∷ []) ∷ (codes "run" ∷ codes "x" ∷ codes "help" ∷ []) ∷ (codes "run" ∷ codes "--" ∷ codes "help" ∷ [])
    ∷ (codes "run" ∷ codes "helps" ∷ []) ∷ []
    )
    ≡ Some Scan ∷ Some Farm ∷ None ∷ None ∷ None ∷ None ∷ None ∷ []
of_help_second = refl

-- flags anywhere in front of `--`
of_flags : map asked
    (
    (codes "--help" ∷ []) ∷ (codes "-h" ∷ []) ∷ (codes "scan" ∷ codes "--help" ∷ []) ∷ (codes "scan" ∷ codes "-h" ∷ [])
    ∷ (codes "report" ∷ codes "--help" ∷ []) ∷ (codes "report" ∷ codes "x" ∷ codes "--help" ∷ [])
    ∷ (codes "farm" ∷ codes "--workers" ∷ codes "4" ∷ codes "-h" ∷ []) ∷ (codes "--help" ∷ codes "scan" ∷ [])
    ∷ (codes "scans" ∷ codes "-h" ∷ []) ∷ (codes "report" ∷ codes "--" ∷ codes "--help" ∷ []) ∷ (codes "--" ∷ codes "-h" ∷ [])
    ∷ (codes "report" ∷ codes "x" ∷ codes "--" ∷ codes "-h" ∷ []) ∷ (codes "scan" ∷ codes "-help" ∷ [])
    ∷ (codes "scan" ∷ codes "--h" ∷ []) ∷ []
    )
    ≡ Some Program ∷ Some Program ∷ Some Scan ∷ Some Scan ∷ Some Report ∷ Some Report ∷ Some Farm ∷ Some Program ∷ Some Program ∷ None
    ∷ None ∷ None ∷ None ∷ None ∷ []
of_flags = refl

-- words that ask for lines, for a farm or for a report, or for nothing
of_other_words : map asked
    (
    (codes "scan" ∷ []) ∷ (codes "sketch" ∷ codes "--" ∷ []) ∷ (codes "run" ∷ codes "x" ∷ []) ∷ (codes "scan" ∷ codes "run" ∷ [])
    ∷ (codes "farm" ∷ codes "--workers" ∷ codes "4" ∷ []) ∷ (codes "report" ∷ codes "app" ∷ []) ∷ (codes "--version" ∷ []) ∷ ([] ∷ []) ∷ []
    )
    ≡ None ∷ None ∷ None ∷ None ∷ None ∷ None ∷ None ∷ None ∷ []
of_other_words = refl
