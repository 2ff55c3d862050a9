-- How a command reads its launch.
use Rattle.std.specs.Prelude.{◌≡◌, ℕ, List, ◌++◌, Option, Some, None, codes, decimal, ⊤}
use Rattle.q_lane.specs.declared.kinds.Kind.{Kind}
use Rattle.q_io.specs.SinkMeaning.{SinkState}
use Rattle.launch_file.specs.declared.launch.LaunchFault.{LaunchFault}
use Rattle.launch_file.specs.declared.launch.LaunchFault.TheVariants.{Rule, Memory as LaunchMemory}
use Rattle.launch_file.specs.Launches.{LaunchOf}
use Rattle.launch_file.specs.LaunchIn.{launch_in}
use Rattle.launch_file.specs.Rules.{first_fault as launch_fault}
use Rattle.launch_file.specs.Fit.{FaultAt, fit_fault}
use Rattle.commands.specs.Plan.{Plan, reads, answers, bad_launch}
use Rattle.commands.specs.Lines.{Says}
use Rattle.commands.specs.declared.status.Status.{Status}
use Rattle.commands.specs.declared.status.Status.TheVariants.{Memory, BadLaunch}

abbrev pub launch_limit : ℕ
launch_limit = 65536

-- the line of a launch whose first violated rule is this one, at this line
unfoldable pub launch_line : ℕ → ℕ → List ℕ
launch_line rule line = codes "bad launch B" ++ (decimal rule ++ (codes " " ++ (decimal line ++ codes "\n")))

-- the launch fits and is taken further, or this is its fault
abbrev pub after_fit : Option FaultAt → (LaunchOf → Plan) → LaunchOf → Plan
after_fit (Some fault) next launch = answers bad_launch (launch_line fault.rule fault.line)
after_fit None next launch = next launch

-- from the fit on: whether it suits parameters of these kinds, and writes to none of the files that are taken
unfoldable pub fit_plan : (taken : List (List ℕ)) → List Kind → (LaunchOf → Plan) → LaunchOf → Plan
fit_plan taken kinds next launch = after_fit (fit_fault launch kinds taken) next launch

-- the bytes are the text of a launch, or this is their fault
abbrev pub after_launch : Option (ℕ × ℕ) → (taken : List (List ℕ)) → List Kind → (LaunchOf → Plan) → LaunchOf → Plan
after_launch (Some fault) taken kinds next launch = answers bad_launch (launch_line fault.0 fault.1)
after_launch None taken kinds next launch = fit_plan taken kinds next launch

-- from the read of the launch on; `taken` are the files that the command names
unfoldable pub launch_plan : (taken : List (List ℕ)) → List Kind → (launch_name : List ℕ) → (LaunchOf → Plan) → Plan
launch_plan taken kinds launch_name next = reads launch_name launch_limit (λ bytes. after_launch (launch_fault bytes) taken kinds next (launch_in bytes))

-- a launch with a fault is refused by its line, and where memory is wanting nothing is written
abbrev pub RefusesLaunch : LaunchFault → SinkState → SinkState → Status → Type 0
RefusesLaunch (Rule rule line) before now result = Says before now (launch_line rule line) BadLaunch result
RefusesLaunch LaunchMemory before now result = (now ≡ before) × (result ≡ Memory)

-- a launch isn't read because of the fault that it has, or for want of memory
abbrev pub IsLaunchFault : Option (ℕ × ℕ) → LaunchFault → Type 0
IsLaunchFault there (Rule rule line) = there ≡ Some (rule, line)
IsLaunchFault there LaunchMemory = ⊤
