-- The customer's three demands, each in one place, of any terminal. The parts stand in Refusals and Bounds (1), Meaning (2), Lists (3), Counts, Names, Seconds, Zero and Preamble;
-- what is no matter of a terminal's answers, in Cases (hand cases), Outcomes (promises of every public function) and Impostors. That demand 1 leaves no room is
-- said in Only.
use Rattle.demands.specs.Terminal.{Terminal}
use Rattle.demands.specs.Refusals.{RowByRow, OneTwoThree, SmallRows, Listed, NoRowEmpty}
use Rattle.demands.specs.Bounds.{NeverStrays, SetUpStays, StaysUsable, ComesBack}
use Rattle.demands.specs.Meaning.{ByteByByte, OnlyStoresChange, RefusedChangesNone, OwnableIsOwners, OwnerIsSwapped, FieldsAreOwners, OthersStay, Replies}
use Rattle.demands.specs.Lists.{Merges}
use Rattle.demands.specs.Counts.{CountersAreHistory, LowCountNothing}
use Rattle.demands.specs.Names.{RowsKept, MissingRefused, MissingIsF1, ObeyedInWindow}
use Rattle.demands.specs.Seconds.{OthersLeaveTime, WrapMovesHalf, OneIsNearest, TicksAreSeconds, OneSecond, OneSecondInOrder, SomeTurn}
use Rattle.demands.specs.Zero.{ReadSo, AsWithoutIt, OthersAsBefore, BySecondByte, OnlyAddressed, TakenOnce, WasRefused, NoneWithZero}
use Rattle.demands.specs.Preamble.{MadeIsTaken, TakenIsMade, ElseSixteen, GreatestTick, GreatestAtWrap, ReaderAlone, TwelveAsBefore, OldAsBefore, WasThrownAway, NeverWrong}

-- 1. Any packet, any end marker, any lent memory: the terminal answers, never strays, always comes back; every refusal has its number, its
-- reply and a fixed effect on memory, unit and reply buffer. (It checks for itself: `OctetsAskNothing`, `PacketsAskNothing`, `UnitAsksNothing`, in Outcomes.)
abbrev pub Demand1 : Terminal → Type 0
Demand1 t = RowByRow t × OneTwoThree t × SmallRows t × Listed t × NoRowEmpty t × NeverStrays t × SetUpStays t × StaysUsable t × ComesBack t

-- 2. Each packet does what document 01 says, byte by byte; refused verified writes and RMWs change no memory; what can be owned is the owner's. (That the code is
-- our terminal: `PacketPromise`, `TimeCodePromise`, `TicksPromise`, in Meaning; and `JudgePromise`, `AsJudged`, `JudgeForetells`.)
abbrev pub Demand2 : Terminal → Type 0
Demand2 t = ByteByByte t × OnlyStoresChange t × RefusedChangesNone t × OwnableIsOwners t × OwnerIsSwapped t × FieldsAreOwners t × OthersStay t × Replies t

-- 3. Two lists of RMAP commands that are apart can be merged in any order-keeping way.
abbrev pub Demand3 : Terminal → Type 0
Demand3 t = Merges t

-- Beside them: counters are the history, names are kept, the Time-Code's wrap goes to the nearest second, a zero in front of plug-and-play is as if it weren't there, and
-- time packets may have the newer preamble.
abbrev pub Histories : Terminal → Type 0
Histories t = CountersAreHistory t × LowCountNothing t

abbrev pub NamesKept : Terminal → Type 0
NamesKept t = RowsKept × MissingRefused t × MissingIsF1 t × ObeyedInWindow t

abbrev pub SecondsKept : Terminal → Type 0
SecondsKept t = OthersLeaveTime t × WrapMovesHalf t × OneIsNearest × TicksAreSeconds t × OneSecond t × OneSecondInOrder t × SomeTurn t

abbrev pub ZeroIgnored : Terminal → Type 0
ZeroIgnored t = ReadSo × AsWithoutIt t × OthersAsBefore t × BySecondByte t × OnlyAddressed t × TakenOnce t × WasRefused × NoneWithZero

abbrev pub PreambleAccepted : Terminal → Type 0
PreambleAccepted t =
    MadeIsTaken t × TakenIsMade t × ElseSixteen t × GreatestTick t × GreatestAtWrap t × ReaderAlone × TwelveAsBefore t × OldAsBefore t × WasThrownAway × NeverWrong t
