-- Refusals 4 to 12 by cases, clause by clause: one at least for every place at which a clause may stand and no other case has it.
-- 11 has its own (RoomCases).
use Rattle.std.specs.Prelude.{List, [], ◌∷◌, T}
use Rattle.text.specs.Items.{refused_in}
use Rattle.refusals.specs.Reading.{read_items, answer_by}
use Rattle.refusals.specs.Cases.{Case, refused, passes, every}

-- 4: name over 32 bytes, at every place where a name may stand and another case has none
unfoldable pub long : List Case
long =
    refused 4 "module M{sensor int #LLLLLLLLLLLLLLLLLLLLLLLLLLLLLLLLL uses g;}" ∷
    refused 4 "module M{actuator #LLLLLLLLLLLLLLLLLLLLLLLLLLLLLLLLL a:=0 uses f;}" ∷
    refused 4 "module M{actuator int #LLLLLLLLLLLLLLLLLLLLLLLLLLLLLLLLL:=0 uses f;}" ∷
    refused 4 "module M{actuator int a:=#LLLLLLLLLLLLLLLLLLLLLLLLLLLLLLLLL uses f;}" ∷
    refused 4 "module M{actuator int a:=0 uses #LLLLLLLLLLLLLLLLLLLLLLLLLLLLLLLLL;}" ∷
    refused 4 "module M{task #LLLLLLLLLLLLLLLLLLLLLLLLLLLLLLLLL{uses f;}}" ∷
    refused 4 "module M{task t{input #LLLLLLLLLLLLLLLLLLLLLLLLLLLLLLLLL i;uses f;}}" ∷
    refused 4 "module M{task t{input int #LLLLLLLLLLLLLLLLLLLLLLLLLLLLLLLLL;uses f;}}" ∷
    refused 4 "module M{task t{output #LLLLLLLLLLLLLLLLLLLLLLLLLLLLLLLLL o:=0;uses f;}}" ∷
    refused 4 "module M{task t{output int #LLLLLLLLLLLLLLLLLLLLLLLLLLLLLLLLL:=0;uses f;}}" ∷
    refused 4 "module M{task t{output int o:=#LLLLLLLLLLLLLLLLLLLLLLLLLLLLLLLLL;uses f;}}" ∷
    refused 4 "module M{task t{uses #LLLLLLLLLLLLLLLLLLLLLLLLLLLLLLLLL;}}" ∷
    refused 4 "module M{start mode #LLLLLLLLLLLLLLLLLLLLLLLLLLLLLLLLL[period=1us]{}}" ∷
    refused 4 "module M{start mode m[period=1us]{mode[freq=1]if #LLLLLLLLLLLLLLLLLLLLLLLLLLLLLLLLL()then m;}}" ∷
    refused 4 "module M{start mode m[period=1us]{mode[freq=1]if isTrue(#LLLLLLLLLLLLLLLLLLLLLLLLLLLLLLLLL)then m;}}" ∷
    refused 4 "module M{start mode m[period=1us]{mode[freq=1]if isTrue(#LLLLLLLLLLLLLLLLLLLLLLLLLLLLLLLLL.o)then m;}}" ∷
    refused 4 "module M{task t{uses f;}start mode m[period=1us]{mode[freq=1]if isTrue(t.#LLLLLLLLLLLLLLLLLLLLLLLLLLLLLLLLL)then m;}}" ∷
    refused 4 "module M{start mode m[period=1us]{task[freq=1]#LLLLLLLLLLLLLLLLLLLLLLLLLLLLLLLLL();}}" ∷
    refused 4 "module M{task t{input int i;uses f;}start mode m[period=1us]{task[freq=1]t(#LLLLLLLLLLLLLLLLLLLLLLLLLLLLLLLLL);}}" ∷
    refused 4 "module M{task t{input int i;uses f;}start mode m[period=1us]{task[freq=1]t(#LLLLLLLLLLLLLLLLLLLLLLLLLLLLLLLLL.o);}}" ∷
    refused 4 "module M{task t{input int i;uses f;}start mode m[period=1us]{task[freq=1]t(t.#LLLLLLLLLLLLLLLLLLLLLLLLLLLLLLLLL);}}" ∷
    refused 4 "module M{sensor int s uses g;start mode m[period=1us]{actuator[freq=1]#LLLLLLLLLLLLLLLLLLLLLLLLLLLLLLLLL:=s;}}" ∷
    refused 4 "module M{actuator int a:=0 uses f;start mode m[period=1us]{actuator[freq=1]a:=#LLLLLLLLLLLLLLLLLLLLLLLLLLLLLLLLL;}}" ∷
    refused 4 "module M{actuator int a:=0 uses f;start mode m[period=1us]{actuator[freq=1]a:=#LLLLLLLLLLLLLLLLLLLLLLLLLLLLLLLLL.o;}}" ∷
    refused 4 "module M{actuator int a:=0 uses f;task t{uses f;}start mode m[period=1us]{actuator[freq=1]a:=t.#LLLLLLLLLLLLLLLLLLLLLLLLLLLLLLLLL;}}" ∷
    []

-- 5: declared twice, in the module's name space and in a task's
unfoldable pub twice : List Case
twice =
    refused 5 "module M{sensor int s uses g;int #s uses g;}" ∷
    refused 5 "module M{actuator int a:=0 uses f;int #a:=0 uses f;}" ∷
    refused 5 "module M{sensor int s uses g;actuator int #s:=0 uses f;}" ∷
    refused 5 "module M{task t{uses f;}task #t{uses f;}}" ∷
    refused 5 "module M{task t{input int i;int #i;uses f;}}" ∷
    refused 5 "module M{task t{output int o:=0;int #o:=1;uses f;}}" ∷
    refused 5 "module M{start mode m[period=1us]{}mode #m[period=1us]{}}" ∷
    refused 5 "module M{task t{uses f;}start mode #t[period=1us]{}}" ∷
    passes "module M{sensor int p uses g;task t{input int p;uses f;}task u{output int p:=0;uses f;}start mode m[period=1us]{}}" ∷
    []

-- 6: unknown, declared later, or of another kind, at every place where a name is used
unfoldable pub unknown : List Case
unknown =
    refused 6 "module M{const a=#b;b=1;}" ∷
    refused 6 "module M{actuator int a:=#b uses f;}" ∷
    refused 6 "module M{actuator #word a:=0 uses f;}" ∷
    refused 6 "module M{task t{input #word i;uses f;}}" ∷
    refused 6 "module M{task t{output #word o:=0;uses f;}}" ∷
    refused 6 "module M{task t{output int o:=#c;uses f;}}" ∷
    refused 6 "module M{sensor int s uses g;task t{output int o:=#s;uses f;}}" ∷
    refused 6 "module M{start mode m[period=1us]{mode[freq=1]if isTrue(#s)then m;}}" ∷
    refused 6 "module M{task t{output boolean o:=true;uses f;}start mode m[period=1us]{mode[freq=1]if isTrue(#t)then m;}}" ∷
    refused 6 "module M{start mode m[period=1us]{mode[freq=1]if isTrue(#t.o)then m;}}" ∷
    refused 6 "module M{sensor boolean s uses g;start mode m[period=1us]{mode[freq=1]if isTrue(#s.o)then m;}}" ∷
    refused 6 "module M{task t{input boolean i;uses f;}start mode m[period=1us]{mode[freq=1]if isTrue(t.#i)then m;}}" ∷
    refused 6 "module M{sensor int t uses g;start mode m[period=1us]{task[freq=1]#t();}}" ∷
    refused 6 "module M{task t{input int i;uses f;}start mode m[period=1us]{task[freq=1]t(#s);}}" ∷
    refused 6 "module M{const c=1;task t{input int i;uses f;}start mode m[period=1us]{task[freq=1]t(#c);}}" ∷
    refused 6 "module M{task t{input int i;uses f;}start mode m[period=1us]{task[freq=1]t(#i.o);}}" ∷
    refused 6 "module M{task t{input int i;uses f;}start mode m[period=1us]{task[freq=1]t(t.#o);}}" ∷
    refused 6 "module M{sensor int s uses g;start mode m[period=1us]{actuator[freq=1]#a:=s;}}" ∷
    refused 6 "module M{actuator int a:=0 uses f;start mode m[period=1us]{actuator[freq=1]a:=#s;}}" ∷
    refused 6 "module M{actuator int a:=0 uses f;start mode m[period=1us]{actuator[freq=1]a:=#t.o;}}" ∷
    refused 6 "module M{actuator int a:=0 uses f;task t{uses f;}task u{output int o:=0;uses f;}start mode m[period=1us]{actuator[freq=1]a:=t.#o;}}" ∷
    refused 6 "module M{const c=1;start mode m[period=1us]{mode[freq=1]#c;}}" ∷
    passes "module M{actuator int a:=0 uses f;task t{uses f;}task u{output int o:=0;uses f;}start mode m[period=1us]{actuator[freq=1]a:=u.o;mode[freq=1]if equal(u.o,u.o)then m;}}" ∷
    []

-- 7: type disagrees, wrong number of arguments
unfoldable pub types : List Case
types =
    refused 7 "module M{actuator int a:=#true uses f;}" ∷
    refused 7 "module M{actuator boolean a:=#1 uses f;}" ∷
    refused 7 "module M{task t{output int o:=#false;uses f;}}" ∷
    refused 7 "module M{const c=1;task t{output boolean o:=#c;uses f;}}" ∷
    refused 7 "module M{sensor int s uses g;boolean b uses g;task t{input int i;int j;uses f;}start mode m[period=1us]{task[freq=1]t(s,#b);}}" ∷
    refused 7 "module M{sensor int s uses g;boolean b uses g;task t{input boolean i;uses f;}start mode m[period=1us]{task[freq=1]t(#s);}}" ∷
    refused 7 "module M{sensor int s uses g;boolean b uses g;task t{input int i;output boolean o:=true;uses f;}start mode m[period=1us]{task[freq=1]t(#t.o);}}" ∷
    refused 7 "module M{sensor int s uses g;boolean b uses g;task t{input int i;uses f;}start mode m[period=1us]{task[freq=1]#t(s,s);}}" ∷
    refused 7 "module M{sensor int s uses g;boolean b uses g;actuator int a:=0 uses f;start mode m[period=1us]{actuator[freq=1]a:=#b;}}" ∷
    refused 7 "module M{sensor int s uses g;boolean b uses g;start mode m[period=1us]{mode[freq=1]if isFalse(#s)then m;}}" ∷
    refused 7 "module M{sensor int s uses g;boolean b uses g;start mode m[period=1us]{mode[freq=1]if less(#b,s)then m;}}" ∷
    refused 7 "module M{sensor int s uses g;boolean b uses g;start mode m[period=1us]{mode[freq=1]if equal(b,#s)then m;}}" ∷
    refused 7 "module M{const c=1;start mode m[period=1us]{mode[freq=1]if isTrue(#c)then m;}}" ∷
    refused 7 "module M{sensor int s uses g;boolean b uses g;task t{output boolean o:=true;uses f;}start mode m[period=1us]{mode[freq=1]if less(s,#t.o)then m;}}" ∷
    refused 7 "module M{sensor int s uses g;boolean b uses g;start mode m[period=1us]{mode[freq=1]if #isTrue(b,b)then m;}}" ∷
    refused 7 "module M{start mode m[period=1us]{mode[freq=1]if #isFalse()then m;}}" ∷
    refused 7 "module M{sensor int s uses g;boolean b uses g;start mode m[period=1us]{mode[freq=1]if #less(s)then m;}}" ∷
    refused 7 "module M{sensor int s uses g;boolean b uses g;start mode m[period=1us]{mode[freq=1]if #equal(b)then m;}}" ∷
    refused 7 "module M{sensor int s uses g;boolean b uses g;start mode m[period=1us]{mode[freq=1]if #equal(b,b,s)then m;}}" ∷
    passes "module M{const c=1;d=true;sensor int s uses g;boolean b uses g;start mode m[period=1us]{mode[freq=1]if less(s,c)then m;[freq=1]if equal(b,d)then m;[freq=1]if isFalse(d)then m;}}" ∷
    []

-- 8: out of range, at both ends
unfoldable pub ranges : List Case
ranges =
    refused 8 "module M{actuator int a:=#2147483648 uses f;}" ∷
    refused 8 "module M{task t{output int o:=-#2147483649;uses f;}}" ∷
    refused 8 "module M{start mode m[period=#2147483648us]{}}" ∷
    refused 8 "module M{start mode m[period=#0ms]{}}" ∷
    refused 8 "module M{sensor int s uses g;actuator int a:=0 uses f;start mode m[period=5us]{actuator[freq=#0]a:=s;}}" ∷
    refused 8 "module M{start mode m[period=65us]{mode[freq=#65]m;}}" ∷
    passes "module M{start mode m[period=2147483647us]{mode[freq=1]m;}}" ∷
    passes "module M{task t{uses f;}start mode m[period=64us]{task[freq=64]t();}}" ∷
    []

-- 9: the period undivided, a task cut by a switch
unfoldable pub frequencies : List Case
frequencies =
    refused 9 "module M{start mode m[period=5us]{mode[freq=#64]m;}}" ∷
    refused 9 "module M{task t{uses f;}task u{uses f;}start mode m[period=4us]{task[freq=2]t();[freq=4]u();mode[freq=#4]m;}}" ∷
    refused 9 "module M{task t{uses f;}start mode m[period=4us]{task[freq=1]t();mode[freq=#2]m;}}" ∷
    passes "module M{task t{uses f;}start mode m[period=1ms]{task[freq=8]t();mode[freq=4]m;[freq=2]m;[freq=1]m;}}" ∷
    passes "module M{sensor int s uses g;actuator int a:=0 uses f;start mode m[period=6us]{actuator[freq=3]a:=s;mode[freq=2]m;}}" ∷
    []

-- 10: in one section, in two, under other guards; another mode does not count
unfoldable pub again : List Case
again =
    refused 10 "module M{task t{uses f;}task u{uses f;}start mode m[period=1us]{task[freq=1]t();[freq=1]u();[freq=1]#t();}}" ∷
    refused 10 "module M{sensor int s uses g;actuator int a:=0 uses f;int b:=0 uses f;start mode m[period=1us]{actuator[freq=1]a:=s;[freq=1]b:=s;actuator[freq=1]#b:=s;}}" ∷
    refused 10 "module M{const c=true;task t{uses f;}start mode m[period=1us]{task[freq=1]if isTrue(c)then t();[freq=1]if isFalse(c)then #t();}}" ∷
    passes "module M{sensor int s uses g;actuator int a:=0 uses f;start mode m[period=1us]{actuator[freq=1]a:=s;}mode n[period=1us]{actuator[freq=1]a:=s;}}" ∷
    []

-- 12: a start mode that is not the first, none at all
unfoldable pub starts : List Case
starts =
    refused 12 "module M{mode m[period=1us]{}start mode n[period=1us]{}#start mode o[period=1us]{}}" ∷
    refused 12 "module M{mode m[period=1us]{}mode n[period=1us]{}}#" ∷
    passes "module AZaz_09{mode m[period=9us]{}start mode n[period=1us]{}}" ∷
    []

pub long-right : T (every long)
unfolding long read_items answer_by refused_in
long-right = tt

pub twice-right : T (every twice)
unfolding twice read_items answer_by refused_in
twice-right = tt

pub unknown-right : T (every unknown)
unfolding unknown read_items answer_by refused_in
unknown-right = tt

pub types-right : T (every types)
unfolding types read_items answer_by refused_in
types-right = tt

pub ranges-right : T (every ranges)
unfolding ranges read_items answer_by refused_in
ranges-right = tt

pub frequencies-right : T (every frequencies)
unfolding frequencies read_items answer_by refused_in
frequencies-right = tt

pub again-right : T (every again)
unfolding again read_items answer_by refused_in
again-right = tt

pub starts-right : T (every starts)
unfolding starts read_items answer_by refused_in
starts-right = tt
